pub mod Places
pub mod Triangles
pub mod Counts
pub mod Hex
pub mod Lines
pub mod Sums
pub mod Noting
pub mod Ends
