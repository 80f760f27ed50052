pub mod Owes
pub mod Begins
pub mod Sound
pub mod Apart
