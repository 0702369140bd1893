pub mod Names
pub mod Doser
pub mod Values
pub mod Journal
pub mod Telling
pub mod Summary
