pub mod Emitting
pub mod Going
pub mod Join
pub mod Pointer
pub mod Reading
pub mod Starting
pub mod Values
