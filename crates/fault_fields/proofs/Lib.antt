pub mod Walks
mod Rows
