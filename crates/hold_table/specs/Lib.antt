pub mod Words
pub mod Views
pub mod Rule
pub mod Seats
pub mod Events
