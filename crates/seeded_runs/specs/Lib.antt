pub mod Seeded
pub mod Report
