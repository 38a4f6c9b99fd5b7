pub mod Fitting
pub mod Refusals
pub mod Views
pub mod Tables
pub mod Weighed
pub mod Boards
pub mod Answers
