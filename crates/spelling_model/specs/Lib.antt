pub mod FieldSpelling
pub mod LineSpelling
pub mod Spelling
pub mod Written
pub mod Readable
