pub mod Map
pub mod Runs
