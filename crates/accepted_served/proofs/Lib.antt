pub mod Waited
pub mod Raised
pub mod Files
