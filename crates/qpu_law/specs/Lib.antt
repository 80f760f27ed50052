pub mod Asks
pub mod Home
pub mod Stream
pub mod Facts
pub mod Thread
pub mod Samples
pub mod Emitted
