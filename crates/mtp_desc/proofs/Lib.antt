pub mod Views
pub mod Sound
