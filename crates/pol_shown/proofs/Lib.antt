pub mod Words
pub mod Listed
pub mod Following
pub mod Crossing
