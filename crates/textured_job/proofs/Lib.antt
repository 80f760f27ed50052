pub mod Cases
pub mod Lists
pub mod Records
pub mod Whole
pub mod Strict
pub mod Witness
pub mod Neighbours
