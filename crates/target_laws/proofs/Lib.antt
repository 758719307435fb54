pub mod Things
pub mod Pixels
pub mod Own
pub mod Histories
pub mod Indexed
pub mod Scenes
mod Rows
