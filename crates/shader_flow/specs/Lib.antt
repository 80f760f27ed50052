pub mod Bounded
pub mod Flow
pub mod Pending
pub mod Rule
pub mod Rules
pub mod Site
