pub mod Pixels
pub mod Steps
pub mod Passes
