pub mod Demands
pub mod Tests
pub mod Covers
