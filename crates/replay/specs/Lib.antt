pub mod Units
pub mod Trace
pub mod Run
