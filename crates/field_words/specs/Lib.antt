pub mod Least
pub mod Pieces
pub mod Questions
pub mod Sizes
pub mod Stops
pub mod WordBytes
pub mod Words
pub mod Writes
