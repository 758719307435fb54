mod Lists
mod Merging
mod PlaceLaws
mod Counts
mod Behind
