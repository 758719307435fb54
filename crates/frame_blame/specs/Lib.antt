pub mod Blame
pub mod Brushes
pub mod Laws
pub mod Marks
pub mod Done
