pub mod Holds
pub mod Freezes
pub mod Runs
pub mod Logs
pub mod Stopping
pub mod Waits
