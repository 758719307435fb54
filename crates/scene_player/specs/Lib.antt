pub mod Numbers
pub mod Words
pub mod Noted
pub mod Ended
pub mod Parts
