pub mod Spoken
pub mod Replied
pub mod BatchLines
pub mod Replaying
pub mod Silent
