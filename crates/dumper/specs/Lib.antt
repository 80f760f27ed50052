pub mod Text
pub mod Parts
pub mod Spans
pub mod Example
pub mod Trace
