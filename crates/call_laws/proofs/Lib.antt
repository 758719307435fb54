pub mod CallLaws
pub mod Grow
pub mod TieLaws
pub mod DyingLaws
pub mod WrittenLaws
pub mod ShapeLaws
pub mod NextLaws
pub mod NamesLaws
pub mod ContextLaws
pub mod FreeLaws
mod Example
