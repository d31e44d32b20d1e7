pub mod Fields
pub mod Written
pub mod Decoding
pub mod Encoding
pub mod Back
pub mod Misfit
pub mod Places
