pub mod Displays
pub mod Followed
