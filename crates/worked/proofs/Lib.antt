pub mod Running
pub mod Faulting
