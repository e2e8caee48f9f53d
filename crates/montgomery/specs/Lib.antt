pub mod Montgomery
pub mod laws
