pub mod Seen
pub mod Lending
pub mod Bytes
