pub mod Prices
pub mod Checkpoint
pub mod Number
pub mod Served
pub mod Stays
pub mod Laws
pub mod Right
