pub mod Draws
pub mod Emission
pub mod Law
pub mod Walks
