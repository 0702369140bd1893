pub mod LastValues
pub mod Reported
pub mod Berths
pub mod Slots
pub mod Sights
pub mod Refused
