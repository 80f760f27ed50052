pub mod Safe
pub mod Strength
pub mod Accepted
pub mod Files
pub mod Follows
pub mod Prepared
