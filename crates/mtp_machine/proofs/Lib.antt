pub mod EveryState
pub mod Bits
