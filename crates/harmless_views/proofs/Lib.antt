mod Covers
pub mod Leaving
mod Checking
mod Mattering
mod Seeing
mod Harmless
