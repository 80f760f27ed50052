pub mod Order
pub mod Going
pub mod Idle
