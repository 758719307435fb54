pub mod Seen
pub mod Bytes
pub mod Rows
pub mod Payloads
