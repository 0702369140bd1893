pub mod Padded
pub mod Names
pub mod Texts
pub mod Fields
pub mod Codes
pub mod Numbers
pub mod Faults
pub mod Repeats
