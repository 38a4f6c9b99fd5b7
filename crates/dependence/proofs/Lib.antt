pub mod Definers
pub mod Split
