pub mod SlotLaws
pub mod AttachLaws
pub mod NewestLaws
pub mod TargetLaws
pub mod NothingLaws
