pub mod Texts
mod Broken
mod Replays
mod Calls
mod Applied
pub mod Opened
mod Firsts
