pub mod Faults
pub mod Operations
pub mod Loops
pub mod Known
