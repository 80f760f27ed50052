pub mod Layout
pub mod Patches
