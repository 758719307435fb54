pub mod Laid
pub mod Pairs
