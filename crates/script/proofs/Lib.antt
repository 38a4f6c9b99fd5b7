pub mod Spells
pub mod Splits
