pub mod Opened
pub mod Booked
pub mod Performed
