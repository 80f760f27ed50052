pub mod Instructions
pub mod Vertices
pub mod Packets
pub mod Requests
pub mod Clients
pub mod Rows
