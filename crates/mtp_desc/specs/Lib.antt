pub mod Plain
pub mod PlainProcedure
pub mod PlainService
pub mod PlainDescription
pub mod Version
pub mod Lookup
