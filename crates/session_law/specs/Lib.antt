pub mod Agree
pub mod Full
pub mod History
pub mod Kept
pub mod Laws
pub mod Lying
pub mod Scripts
