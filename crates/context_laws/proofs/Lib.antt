pub mod Basics
pub mod Runs
pub mod Calls
