pub mod Frame
pub mod Length
pub mod Surfaces
pub mod Text
