pub mod Checked
pub mod Length
pub mod Opened
pub mod Places
pub mod Puts
pub mod Rows
pub mod Sizes
pub mod Spans
