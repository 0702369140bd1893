pub mod Digits
pub mod Told
pub mod Versions
pub mod Runs
pub mod Counts
pub mod Lines
