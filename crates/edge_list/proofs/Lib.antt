pub mod Appending
pub mod Reading
pub mod Rows
pub mod Whole
