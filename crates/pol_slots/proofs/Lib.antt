pub mod Forgetting
pub mod Knowing
pub mod Docking
pub mod Ruling
