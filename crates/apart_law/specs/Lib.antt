pub mod Part
pub mod Tied
pub mod Steps
