pub mod Files
pub mod Drivers
