pub mod ReadResult
pub mod Leaf
pub mod Form
pub mod ReadsAs
pub mod PathText
pub mod Parse
pub mod Written
