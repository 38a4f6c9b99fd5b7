pub mod Edge
pub mod Law
pub mod Stages
