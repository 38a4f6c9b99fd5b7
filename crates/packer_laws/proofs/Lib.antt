pub mod Texts
pub mod Planned
pub mod Expanded
pub mod Ran
