pub mod Layout
pub mod Bytes
pub mod Kinds
pub mod Sorts
