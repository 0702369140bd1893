pub mod Telling
pub mod Keeping
pub mod Going
pub mod Leaving
pub mod Life
