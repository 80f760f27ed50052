pub mod Config
pub mod Length
pub mod Opcode
pub mod Packet
pub mod StateWord
