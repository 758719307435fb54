pub mod Lists
pub mod Steps
pub mod Pixels
pub mod Histories
pub mod Fates
pub mod Scenes
pub mod Indexed
pub mod Doing
mod Rows
