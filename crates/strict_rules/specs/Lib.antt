pub mod Least
pub mod Queue
pub mod Rules
pub mod Walk
pub mod Words
