pub mod Levels
pub mod Numbers
pub mod Parts
pub mod Places
pub mod Steps
pub mod Whole
