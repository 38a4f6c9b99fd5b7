pub mod Apart
pub mod Below
pub mod Examining
pub mod Stepping
pub mod DueLists
pub mod Machines
