pub mod Order
pub mod Members
pub mod Steps
pub mod Kept
pub mod Leasts
pub mod Views
pub mod Adding
pub mod Fronts
pub mod There
pub mod Clashes
pub mod NoLine
mod Examples
