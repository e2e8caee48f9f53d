pub mod Ready
pub mod Represent
pub mod laws
