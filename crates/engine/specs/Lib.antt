pub mod Runs
pub mod Answers
