pub mod Renewing
pub mod Commanded
pub mod Found
pub mod Replied
pub mod Batched
pub mod Told
