pub mod Matching
pub mod Judging
pub mod Alike
