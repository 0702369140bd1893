pub mod Cutting
pub mod Feeds
pub mod FirstLines
pub mod Known
pub mod Pieces
pub mod Ranges
pub mod Stopping
pub mod Windows
