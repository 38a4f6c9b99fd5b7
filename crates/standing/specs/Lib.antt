pub mod Faults
pub mod Seen
pub mod Tied
pub mod Readings
pub mod Works
