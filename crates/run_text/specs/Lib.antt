pub mod Spot
pub mod Log
