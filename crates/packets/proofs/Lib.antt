pub mod Underway
pub mod Slots
pub mod Laws
pub mod Lengths
