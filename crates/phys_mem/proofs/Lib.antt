pub mod Deeds
pub mod Parts
pub mod Rooms
pub mod Windows
