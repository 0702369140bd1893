pub mod Without
pub mod Named
pub mod Lines
