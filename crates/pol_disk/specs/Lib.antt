pub mod Disks
pub mod Remains
pub mod Records
pub mod Calls
pub mod Answers
