pub mod Reading
pub mod Taking
pub mod Finding
pub mod Beginning
pub mod OneSum
