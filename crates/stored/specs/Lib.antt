pub mod Stored
pub mod laws
