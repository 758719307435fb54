pub mod Layouts
pub mod Modes
pub mod Statuses
pub mod Things
