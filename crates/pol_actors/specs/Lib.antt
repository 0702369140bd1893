pub mod Orders
pub mod Batches
pub mod Exchanges
pub mod Turning
pub mod Kept
pub mod Stamps
pub mod Moved
