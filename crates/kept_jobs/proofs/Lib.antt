pub mod Admitting
pub mod Settling
pub mod Running
pub mod Ended
pub mod Lives
