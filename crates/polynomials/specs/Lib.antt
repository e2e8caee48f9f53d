pub mod Poly
pub mod Canonical
pub mod Division
pub mod Value
pub mod Bounds
pub mod Packed
pub mod Working
mod Examples
pub mod laws
