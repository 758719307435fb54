pub mod SceneFrames
pub mod Gathered
pub mod Readables
pub mod Laws
