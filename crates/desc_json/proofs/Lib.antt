pub mod Again
pub mod Depths
pub mod Floats
