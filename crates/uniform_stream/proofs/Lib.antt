pub mod QuietWrites
pub mod Ends
pub mod Restarts
