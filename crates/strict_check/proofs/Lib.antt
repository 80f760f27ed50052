pub mod Going
pub mod Named
