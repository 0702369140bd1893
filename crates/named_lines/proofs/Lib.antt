pub mod Without
pub mod Stamps
pub mod Alike
pub mod Said
pub mod Persons
