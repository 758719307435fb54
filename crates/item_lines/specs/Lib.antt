pub mod Items
pub mod Merging
pub mod Laws
