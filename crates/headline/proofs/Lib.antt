pub mod Stages
pub mod Uses
