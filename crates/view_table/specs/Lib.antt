pub mod Seen
pub mod Answered
pub mod Order
pub mod Targets
