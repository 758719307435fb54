pub mod Recorded
pub mod Laws
pub mod Pairs
