pub mod Layouts
pub mod Expansions
