pub mod Targeters
pub mod GivenTargets
pub mod Strokes
pub mod Tells
