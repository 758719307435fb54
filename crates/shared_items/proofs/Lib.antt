pub mod Finds
pub mod Joined
pub mod Sharing
mod Examples
