pub mod Blocks
mod Fronts
pub mod MayRun
pub mod Telling
pub mod Places
pub mod Safe
mod Sizes
pub mod Submissions
pub mod Takes
pub mod Texts
mod Report
