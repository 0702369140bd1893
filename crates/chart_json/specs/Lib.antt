pub mod Words
pub mod Requirement
pub mod Form
pub mod Levels
pub mod Sound
pub mod Written
