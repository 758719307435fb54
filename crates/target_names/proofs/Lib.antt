pub mod Spelled
pub mod Reached
