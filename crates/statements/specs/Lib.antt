pub mod Statements
pub mod Forms
pub mod Records
