pub mod Words
pub mod Means
pub mod Standings
