pub mod Showing
pub mod Rendered
