pub mod Each
pub mod Counting
pub mod Drawing
