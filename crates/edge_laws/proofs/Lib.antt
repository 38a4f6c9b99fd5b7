pub mod Meeting
pub mod Pieces
pub mod Few
