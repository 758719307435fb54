pub mod Items
pub mod Lines
pub mod Seen
pub mod Marked
pub mod Laws
