mod Cleared
mod CutLaws
mod PreparedLaws
mod DrawnLaws
mod Entries
mod Facings
mod Fetches
mod Folds
mod Fronts
mod Parts
pub mod PassLaws
mod Places
mod TargetLaws
mod Needs
mod Copies
