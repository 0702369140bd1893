pub mod Objects
pub mod Rows
pub mod Texts
pub mod Ranges
pub mod Exact
pub mod Lines
pub mod Gathered
pub mod Verdicts
