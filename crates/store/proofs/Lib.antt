pub mod Tables
pub mod Takens
pub mod Lists
pub mod Kept
pub mod Lents
pub mod Ranges
