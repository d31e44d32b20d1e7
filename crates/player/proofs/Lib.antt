pub mod Plays
pub mod Promise
