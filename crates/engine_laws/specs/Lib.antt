pub mod Parts
pub mod Tracks
pub mod Rows
pub mod Dues
