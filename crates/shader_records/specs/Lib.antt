pub mod Emission
pub mod Emitted
pub mod Faults
pub mod Inputs
pub mod Named
pub mod Rules
pub mod Sources
