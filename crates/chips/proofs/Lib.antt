pub mod Tears
pub mod Acts
