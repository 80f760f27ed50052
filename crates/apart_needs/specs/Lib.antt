pub mod States
pub mod Worked
pub mod Sharing
pub mod Entries
