pub mod Texts
pub mod Histories
pub mod Tokens
