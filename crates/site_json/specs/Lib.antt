pub mod Ruled
pub mod Form
pub mod Texts
