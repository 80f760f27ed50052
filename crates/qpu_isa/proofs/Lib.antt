pub mod Fields
pub mod Words
pub mod Report
pub mod Opened
