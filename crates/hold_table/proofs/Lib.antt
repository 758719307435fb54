pub mod Totals
pub mod PlaceLaws
pub mod Keeps
pub mod Steps
pub mod Seats
pub mod Events
pub mod Parts
pub mod Each
