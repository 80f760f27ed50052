pub mod Quiet
pub mod Rules
pub mod Stream
pub mod Walk
