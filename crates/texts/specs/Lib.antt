pub mod Faults
pub mod Seen
pub mod Forms
pub mod Records
