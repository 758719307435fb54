mod Swaps
mod Arranged
mod Drawing
mod Worlds
mod Passing
mod Frames
mod Journals
