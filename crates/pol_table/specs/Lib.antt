pub mod HeldRows
pub mod Rows
pub mod ByteOrder
pub mod Reasons
pub mod HeldAnswers
pub mod Answers
pub mod Places
pub mod Watches
