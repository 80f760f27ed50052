pub mod Moving
pub mod Words
