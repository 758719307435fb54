pub mod Again
pub mod Ordered
