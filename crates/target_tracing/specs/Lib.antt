pub mod Surfaces
pub mod Placed
pub mod Seen
pub mod Tracing
