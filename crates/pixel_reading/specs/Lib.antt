pub mod Formats
pub mod Reads
