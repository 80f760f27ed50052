pub mod Handles
pub mod Order
pub mod Rules
pub mod Sound
pub mod Table
