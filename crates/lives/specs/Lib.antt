pub mod Schedules
pub mod Reads
