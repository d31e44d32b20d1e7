pub mod Meets
pub mod Accepts
pub mod Steps
pub mod Follows
