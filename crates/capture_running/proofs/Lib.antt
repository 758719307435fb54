pub mod Filmed
pub mod Captures
pub mod Sinks
pub mod Played
pub mod Recorded
pub mod Endings
