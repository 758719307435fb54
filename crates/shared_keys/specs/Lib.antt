pub mod Members
pub mod Pairs
pub mod Lines
pub mod Marks
pub mod Laws
pub mod Steps
