pub mod Acts
pub mod Programs
pub mod Machine
pub mod Costs
pub mod Slots
pub mod Plan
pub mod Start
pub mod Codes
