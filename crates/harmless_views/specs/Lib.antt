pub mod Covers
pub mod Runs
pub mod Checked
pub mod Left
pub mod Seen
