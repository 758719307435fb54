pub mod Kinds
pub mod Places
pub mod Seen
pub mod Names
