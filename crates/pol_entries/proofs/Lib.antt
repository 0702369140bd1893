pub mod Compared
pub mod Again
pub mod Told
pub mod Lines
pub mod Sameness
