pub mod Laxer
pub mod Named
pub mod Ordered
pub mod Order
pub mod Sharing
pub mod Sounds
