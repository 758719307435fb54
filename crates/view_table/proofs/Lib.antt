pub mod Lists
pub mod Named
pub mod Others
pub mod Permuted
pub mod Filled
pub mod Kept
pub mod TargetLaws
