pub mod Cut
pub mod Shaders
pub mod Files
