pub mod Laws
pub mod Desks
pub mod Lines
pub mod Loops
pub mod Words
pub mod Writers
