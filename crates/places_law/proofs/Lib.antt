pub mod Files
pub mod Formats
pub mod Lists
pub mod Records
pub mod Tables
pub mod Wholes
pub mod Words
