pub mod Dones
pub mod Putting
