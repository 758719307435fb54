pub mod Laws
pub mod Recorded
