pub mod Fetch
pub mod Fits
pub mod Format
pub mod Level
pub mod Place
pub mod Setup
pub mod Surface
