pub mod Options
pub mod Lists
pub mod Played
pub mod Rising
pub mod Given
pub mod Histories
