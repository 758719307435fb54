mod Ends
mod LineTexts
mod Fronts
mod FramesPut
