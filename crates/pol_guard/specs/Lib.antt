pub mod Denials
pub mod Lines
pub mod Guarded
pub mod Work
pub mod Guards
pub mod Laws
