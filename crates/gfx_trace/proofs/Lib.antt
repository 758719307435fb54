pub mod Texts
pub mod Values
pub mod NoJob
pub mod Ends
pub mod Told
pub mod Targets
