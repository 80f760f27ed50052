pub mod Noise
pub mod Lists
pub mod Example
