pub mod Work
pub mod Stands
pub mod Names
pub mod Keeping
pub mod Opens
pub mod Refusals
