mod Read
mod Numbers
mod Words
mod Names
mod Bytes
pub mod Joins
mod Parts
mod RectTakes
mod ResourceTakes
mod ViewTakes
mod EncoderTakes
mod SoFar
mod Steps
mod FrameSteps
mod ReadLines
mod Texts
mod Stages
mod Choices
pub mod Reading
mod Examples
mod Unreadable
pub mod LineTexts
pub mod Writing
pub mod Fronts
mod FieldRanges
mod NameRanges
mod LineRanges
pub mod FrameRanges
mod FieldsAgain
mod NamesAgain
mod Spelled
mod LinesAgain
mod StepsAgain
mod SceneAgain
mod LinesApart
pub mod TextsAgain
pub mod Growing
pub mod FrontReads
