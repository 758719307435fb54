mod Harmless
mod Frames
mod Shaped
