pub mod Each
pub mod Alike
pub mod Reach
pub mod Rows
pub mod Law
pub mod Sizes
