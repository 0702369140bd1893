pub mod Renewed
pub mod Guarded
pub mod Overviews
