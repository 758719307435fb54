pub mod Order
pub mod Swept
mod Meeting
pub mod Covered
