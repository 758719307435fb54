pub mod Planned
pub mod Rowed
pub mod Drawn
pub mod Ended
pub mod Named
