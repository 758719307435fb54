mod LineLaws
mod NumberLaws
mod MeterLaws
mod FrameLaws
pub mod SceneLaws
