pub mod Traces
pub mod Gathered
pub mod SceneLines
