pub mod Lists
pub mod Keys
pub mod Utf8
pub mod Joined
pub mod Each
pub mod Again
