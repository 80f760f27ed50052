pub mod Facts
pub mod Readings
pub mod Table
pub mod Upkeep
