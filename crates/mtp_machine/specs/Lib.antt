pub mod Machine
pub mod Masks
pub mod States
