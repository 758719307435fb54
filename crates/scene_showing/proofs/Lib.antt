pub mod Counts
pub mod Pictures
pub mod Shown
pub mod Orders
