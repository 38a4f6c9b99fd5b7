pub mod Modulo
pub mod Rotating
pub mod Expanded
pub mod Formulas
pub mod Names
