pub mod Findings
pub mod Stages
pub mod Uses
pub mod Whole
