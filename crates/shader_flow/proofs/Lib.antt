pub mod Bounded
pub mod Counts
pub mod Ends
