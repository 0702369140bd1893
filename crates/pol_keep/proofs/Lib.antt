pub mod Stored
pub mod Running
pub mod Ended
pub mod Orderly
pub mod Exported
pub mod Replayable
