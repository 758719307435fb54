pub mod Places
pub mod Gathered
pub mod States
pub mod Kept
pub mod Calls
pub mod Ended
pub mod Laws
