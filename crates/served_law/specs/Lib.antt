pub mod Raises
pub mod Known
pub mod Finish
