pub mod Lengths
pub mod Zipped
