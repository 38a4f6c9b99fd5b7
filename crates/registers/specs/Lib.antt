pub mod Views
pub mod Fits
pub mod Meanings
