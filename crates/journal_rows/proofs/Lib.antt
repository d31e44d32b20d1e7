pub mod Room
pub mod Every
pub mod Ranges
pub mod ReadBack
pub mod Says
pub mod Cuts
pub mod Told
pub mod Laws
