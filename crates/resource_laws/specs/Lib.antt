pub mod Bare
pub mod Lawful
pub mod Laws
