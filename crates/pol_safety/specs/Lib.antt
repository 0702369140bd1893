pub mod Permitted
pub mod Charts
pub mod Kept
pub mod Advances
pub mod Known
pub mod Sound
