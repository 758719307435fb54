pub mod Inside
pub mod Search
