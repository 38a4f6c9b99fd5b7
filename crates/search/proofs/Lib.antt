pub mod Entries
pub mod Cells
pub mod Boards
pub mod Runs
