pub mod Texts
pub mod Formed
