pub mod LineWork
pub mod InputLines
pub mod Faults
pub mod Written
pub mod Ends
pub mod Settling
pub mod Moments
pub mod Deeds
