pub mod Bare
pub mod Views
pub mod Laws
