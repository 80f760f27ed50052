pub mod Bytes
pub mod Contents
pub mod Running
pub mod Reach
