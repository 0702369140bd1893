pub mod Places
pub mod Lengths
pub mod Tokens
pub mod Described
pub mod Texts
pub mod Between
pub mod Cuts
