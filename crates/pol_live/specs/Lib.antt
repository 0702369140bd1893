pub mod Turns
pub mod Seats
pub mod Promises
pub mod Parts
