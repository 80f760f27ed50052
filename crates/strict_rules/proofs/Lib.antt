pub mod Leasts
pub mod Requests
pub mod Rooms
