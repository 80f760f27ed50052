pub mod Units
pub mod Jobs
pub mod Laws
pub mod Begins
pub mod Sound
pub mod Apart
