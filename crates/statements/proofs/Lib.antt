pub mod Finding
pub mod InRange
pub mod LoopSteps
