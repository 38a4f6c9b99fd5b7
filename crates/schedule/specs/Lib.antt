pub mod Answers
pub mod Choices
pub mod Problems
pub mod Refusals
