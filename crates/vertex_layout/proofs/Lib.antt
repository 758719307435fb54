pub mod ListLaws
pub mod SlotLaws
pub mod BuildLaws
pub mod FetchLaws
