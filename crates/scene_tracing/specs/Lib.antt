pub mod Asked
pub mod Histories
pub mod Tracing
pub mod Steps
pub mod Stepping
pub mod Blame
pub mod Blaming
