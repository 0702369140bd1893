pub mod FreezeText
pub mod Lines
pub mod Outputs
pub mod Replies
pub mod Meant
