pub mod Forms
pub mod Refusals
pub mod Verbs
