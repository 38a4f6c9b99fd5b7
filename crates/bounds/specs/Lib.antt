pub mod Kept
pub mod Graphs
pub mod Noted
pub mod Rounds
pub mod Paths
pub mod Passing
pub mod Answers
