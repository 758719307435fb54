pub mod Loads
pub mod Text
pub mod Laws
pub mod Seen
pub mod SeenNames
pub mod SeenReading
