pub mod Calls
pub mod Desk
pub mod Laws
pub mod Past
pub mod Text
