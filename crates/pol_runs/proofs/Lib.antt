pub mod Wanted
pub mod Nexts
pub mod Grown
pub mod Growing
pub mod Doing
pub mod Flags
