pub mod Appended
pub mod Lists
