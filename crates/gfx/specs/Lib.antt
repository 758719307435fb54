pub mod Definitions
pub mod Calls
pub mod Frames
pub mod Pictures
