pub mod Work
pub mod Lawful
pub mod Stands
pub mod Keeping
pub mod Opens
pub mod Refusals
pub mod Written
