pub mod Targets
pub mod ByIndex
pub mod Laws
pub mod Names
pub mod Text
