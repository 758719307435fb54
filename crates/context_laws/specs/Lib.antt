pub mod Runs
pub mod Contexts
