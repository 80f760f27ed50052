pub mod Notes
pub mod Text
