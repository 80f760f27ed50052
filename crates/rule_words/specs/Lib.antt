pub mod Spot
pub mod Names
