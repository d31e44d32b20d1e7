pub mod Shares
pub mod Journeys
