pub mod Records
pub mod Rules
pub mod Walk
