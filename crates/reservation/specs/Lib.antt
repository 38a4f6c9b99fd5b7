pub mod Times
pub mod Cells
pub mod Views
pub mod Uses
