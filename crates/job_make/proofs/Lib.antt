pub mod BlockSteps
pub mod SectionSteps
pub mod Steps
pub mod WordSteps
