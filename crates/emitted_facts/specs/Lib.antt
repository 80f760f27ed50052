pub mod Facts
pub mod Records
