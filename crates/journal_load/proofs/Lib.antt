pub mod Commits
pub mod Says
pub mod Sorts
pub mod Shares
