pub mod Requests
pub mod Plays
