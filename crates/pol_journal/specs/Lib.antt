pub mod Journals
pub mod Wanted
