pub mod Back
pub mod Bound
pub mod Frames
pub mod Items
pub mod Law
pub mod Live
