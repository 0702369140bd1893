pub mod Meanings
pub mod Replay
pub mod BatchLines
