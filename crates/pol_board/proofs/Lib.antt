pub mod Older
pub mod Moves
