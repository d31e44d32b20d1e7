pub mod Plans
pub mod Ranges
pub mod Advances
