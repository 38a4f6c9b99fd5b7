pub mod Bodies
pub mod Appending
pub mod Whole
pub mod Cuts
pub mod Filled
