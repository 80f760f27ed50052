pub mod Alu
pub mod Branch
pub mod Load
pub mod Names
pub mod Pieces
pub mod Seen
pub mod Word
