pub mod Lists
pub mod Nones
pub mod Pieces
pub mod Questions
pub mod Numbers
pub mod WordBytes
pub mod Writes
pub mod Least
