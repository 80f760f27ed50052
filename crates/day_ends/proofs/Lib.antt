pub mod Alone
pub mod Days
