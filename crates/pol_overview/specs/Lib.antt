pub mod Lists
pub mod Entries
pub mod May
pub mod Modules
pub mod Steps
pub mod Near
pub mod Batches
pub mod Overview
