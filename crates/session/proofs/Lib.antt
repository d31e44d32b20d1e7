pub mod Changes
pub mod Counts
pub mod Begins
pub mod Steps
pub mod Never
