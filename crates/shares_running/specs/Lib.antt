pub mod Numbers
pub mod Words
pub mod Listed
pub mod Left
pub mod Lines
pub mod Ended
pub mod Putting
