pub mod Finding
pub mod Scenes
pub mod Numbered
pub mod Told
