pub mod Numbers
pub mod Words
pub mod Filmed
pub mod Measured
pub mod PlayedInto
pub mod Ended
