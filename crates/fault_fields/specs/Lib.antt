pub mod Spelled
pub mod Names
pub mod Kinds
pub mod Forms
pub mod Fields
