pub mod Film
pub mod Capture
pub mod Fault
pub mod Gives
pub mod Spelling
