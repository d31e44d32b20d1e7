pub mod Lines
pub mod House
pub mod Calls
pub mod Chip
pub mod Promise
pub mod Statements
pub mod Example
