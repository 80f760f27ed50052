pub mod Calls
pub mod Desk
pub mod Laws
pub mod Search
pub mod SlotRun
pub mod Text
