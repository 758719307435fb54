pub mod Ranges
pub mod NameLaws
pub mod Exits
pub mod Begins
pub mod Balance
