pub mod Starts
pub mod Safety
pub mod Steps
pub mod Packets
pub mod Prepared
