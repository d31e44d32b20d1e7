pub mod Wholes
pub mod Fields
pub mod Numbers
pub mod Apart
