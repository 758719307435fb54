pub mod Recording
pub mod Given
pub mod Steps
pub mod Order
pub mod Frames
