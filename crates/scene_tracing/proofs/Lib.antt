mod Journals
pub mod Frames
pub mod Scenes
mod Texts
mod StepLines
mod Steppers
pub mod GivenFrames
mod SceneSteps
mod Blamers
mod SceneBlame
