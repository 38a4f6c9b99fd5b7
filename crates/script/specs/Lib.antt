pub mod Escapes
pub mod Spelling
pub mod Cells
pub mod Script
pub mod Taken
pub mod Seen
