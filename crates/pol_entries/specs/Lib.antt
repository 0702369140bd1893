pub mod Found
pub mod Compared
pub mod Candidates
pub mod Answers
pub mod Entries
pub mod Same
