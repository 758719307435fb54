pub mod Seen
pub mod Kept
pub mod Links
pub mod Merged
pub mod Ordered
pub mod Placed
pub mod Outcomes
