pub mod Grows
pub mod Ranges
pub mod TwoRanges
pub mod Lines
pub mod Readable
