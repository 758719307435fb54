pub mod Kinds
pub mod Placed
pub mod Slots
pub mod Layouts
pub mod Inner
pub mod Building
pub mod Seen
