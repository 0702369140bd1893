pub mod Streams
pub mod Inputs
