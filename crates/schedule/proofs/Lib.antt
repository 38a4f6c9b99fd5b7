mod Arrays
mod Attempts
mod Plans
mod Planned
pub mod Corollaries
