pub mod Fields
pub mod Named
pub mod Again
pub mod StencilLaws
mod Rows
mod Meanings
