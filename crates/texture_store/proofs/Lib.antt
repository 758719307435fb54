pub mod BlockLaws
pub mod RowLaws
pub mod CutLaws
pub mod PartLaws
pub mod TextureLaws
pub mod TakeLaws
