pub mod Waited
pub mod Cancelled
pub mod Paid
pub mod Limited
pub mod Timed
