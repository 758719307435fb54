pub mod Calls
pub mod Outcomes
pub mod Turns
pub mod Shown
