mod Frees
mod Makes
mod Changes
mod Begun
