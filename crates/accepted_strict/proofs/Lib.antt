pub mod Handles
pub mod Emitted
pub mod Selects
pub mod Lists
pub mod Jobs
pub mod Files
pub mod Drivers
