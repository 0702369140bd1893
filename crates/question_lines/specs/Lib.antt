pub mod Words
pub mod Front
pub mod Questions
