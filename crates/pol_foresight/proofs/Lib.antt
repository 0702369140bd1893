pub mod Ruled
pub mod Looked
