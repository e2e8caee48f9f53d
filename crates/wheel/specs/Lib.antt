pub mod Wheel
pub mod laws
