pub mod Ring
pub mod Steps
pub mod Openings
pub mod Slots
pub mod WholeSeat
pub mod Events
pub mod Parts
