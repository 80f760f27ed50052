pub mod Level
pub mod Picture
pub mod Steps
