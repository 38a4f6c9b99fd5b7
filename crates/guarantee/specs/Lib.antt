pub mod Calls
pub mod PlainPacker
pub mod Guarantees
pub mod Lists
