pub mod Apart
pub mod Digits
pub mod Held
pub mod Packed
pub mod Refusals
pub mod Slots
pub mod Texts
