pub mod Numbers
pub mod Words
pub mod Notes
pub mod Io
pub mod Putting
pub mod Ended
