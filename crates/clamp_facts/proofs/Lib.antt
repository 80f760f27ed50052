pub mod Carriers
pub mod Clamps
pub mod Entries
pub mod Keeping
