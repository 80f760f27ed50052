pub mod Begins
pub mod Steps
