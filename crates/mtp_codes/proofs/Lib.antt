pub mod OverZeros
pub mod Ascii
pub mod Names
pub mod Repeats
pub mod Lists
pub mod Options
