pub mod Picture
pub mod Difference
pub mod Frames
pub mod Lines
pub mod Numbers
pub mod Reading
pub mod Told
