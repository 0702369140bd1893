pub mod Written
pub mod Accepting
pub mod Meeting
pub mod Serving
pub mod Deeds
pub mod Ending
pub mod Closing
mod Refusing
