pub mod Placed
pub mod Views
pub mod Rows
pub mod Kept
pub mod Forms
pub mod Written
