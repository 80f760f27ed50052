pub mod Numbers
pub mod Shader
pub mod Bin
pub mod Records
pub mod Whole
