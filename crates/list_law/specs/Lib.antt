pub mod May
pub mod Uses
pub mod Binning
pub mod Rendering
pub mod Lists
pub mod Laws
pub mod Start
pub mod Emitted
