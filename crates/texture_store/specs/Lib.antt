pub mod Block
pub mod Cut
pub mod Seen
pub mod Held
pub mod Inside
