pub mod Tokens
pub mod Known
pub mod Written
pub mod Appending
pub mod Pieces
mod Exact
