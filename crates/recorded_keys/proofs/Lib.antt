pub mod KeyLaws
pub mod Planned
pub mod PairLaws
mod Gathered
