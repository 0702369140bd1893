pub mod Members
pub mod Orderly
pub mod Named
pub mod Entries
pub mod Again
pub mod Depths
pub mod Places
pub mod Versions
