mod Judged
mod Keys
mod Closing
mod Good
mod Exact
mod Fields
mod Answers
pub mod Entries
mod Feeds
pub mod Replayed
pub mod Inputs
