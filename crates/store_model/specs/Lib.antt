pub mod Slots
pub mod Buffers
pub mod Textures
pub mod Laws
