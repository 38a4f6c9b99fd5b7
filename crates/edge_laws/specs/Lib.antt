pub mod Meeting
pub mod Laws
