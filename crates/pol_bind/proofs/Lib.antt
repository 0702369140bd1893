pub mod Firsts
pub mod Requirements
pub mod Twice
pub mod Stepped
pub mod Needed
