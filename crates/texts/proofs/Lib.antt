pub mod LineSteps
pub mod Places
