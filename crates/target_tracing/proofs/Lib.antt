pub mod After
pub mod Doings
pub mod Loops
pub mod Whole
