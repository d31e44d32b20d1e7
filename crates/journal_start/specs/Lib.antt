pub mod Starting
pub mod Stages
