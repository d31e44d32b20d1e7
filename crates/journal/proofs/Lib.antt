pub mod Machine
pub mod Log
pub mod Runs
pub mod Slots
pub mod Plan
pub mod Start
