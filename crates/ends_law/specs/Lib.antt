pub mod Loops
pub mod Room
pub mod Steps
pub mod Left
pub mod Ends
