pub mod Sums
pub mod Marks
pub mod Passing
pub mod Trail
pub mod Turned
pub mod Told
