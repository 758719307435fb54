pub mod Ring
pub mod Frames
pub mod Turning
pub mod Spinning
