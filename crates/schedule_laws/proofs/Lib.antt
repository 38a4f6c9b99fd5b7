pub mod Machines
pub mod Alike
pub mod Intervals
pub mod Tables
pub mod Times
pub mod Readiness
pub mod Rest
