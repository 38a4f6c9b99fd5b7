pub mod Alike
pub mod Laws
pub mod Ready
