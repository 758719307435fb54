pub mod Shorter
pub mod Again
