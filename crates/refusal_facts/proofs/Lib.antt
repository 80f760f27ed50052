pub mod Shaders
pub mod Walk
