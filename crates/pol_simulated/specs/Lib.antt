pub mod Units
pub mod Places
pub mod Laws
pub mod Planned
pub mod Values
