pub mod Sharing
pub mod Entries
pub mod Threads
pub mod ListUnits
pub mod Processors
