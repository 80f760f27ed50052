pub mod Faults
pub mod Traffic
