pub mod Regions
pub mod Apart
