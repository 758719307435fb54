pub mod Most
pub mod Digits
pub mod Spreads
pub mod Rows
pub mod LineSteps
pub mod Texts
pub mod Frames
pub mod Nears
mod Examples
