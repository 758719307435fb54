pub mod Lists
pub mod Reached
pub mod Journals
pub mod Given
