pub mod Fine
pub mod Law
pub mod Texts
pub mod Walking
