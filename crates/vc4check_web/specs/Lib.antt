pub mod Call
pub mod Kept
