pub mod Bookable
