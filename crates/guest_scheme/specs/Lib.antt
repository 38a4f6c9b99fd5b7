pub mod Lane
pub mod LaneMeaning
