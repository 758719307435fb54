pub mod Progress
pub mod Notes
pub mod Laws
