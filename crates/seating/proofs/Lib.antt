pub mod Rooms
pub mod Frees
pub mod Turns
pub mod Newest
