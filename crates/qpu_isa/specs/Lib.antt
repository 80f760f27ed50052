pub mod Word
pub mod Inst
pub mod Fields
pub mod Shader
pub mod Terms
pub mod Report
pub mod Setups
