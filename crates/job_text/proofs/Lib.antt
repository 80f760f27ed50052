pub mod Again
pub mod DrawSteps
pub mod FieldSteps
pub mod Marks
pub mod Pieces
pub mod Taking
pub mod Texts
