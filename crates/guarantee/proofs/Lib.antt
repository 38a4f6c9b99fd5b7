pub mod OnTexts
pub mod Plans
pub mod Runs
pub mod Steps
pub mod Chains
