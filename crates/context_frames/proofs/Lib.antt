mod Given
mod Recordings
mod Totals
