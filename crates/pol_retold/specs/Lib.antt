pub mod Retold
pub mod Inputs
pub mod Replayed
pub mod Told
