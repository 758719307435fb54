pub mod Meters
pub mod Lines
pub mod Found
pub mod Frames
pub mod Scenes
pub mod Checkers
