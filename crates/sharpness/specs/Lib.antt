pub mod Cases
pub mod BrokenEdge
pub mod BrokenLaw
pub mod NineStages
