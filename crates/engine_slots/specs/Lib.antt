pub mod Boards
pub mod Slots
pub mod Rows
