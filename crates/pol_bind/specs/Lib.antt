pub mod Walks
pub mod TestMisfits
pub mod Roles
pub mod Gathered
pub mod Needs
pub mod PlainNeeds
