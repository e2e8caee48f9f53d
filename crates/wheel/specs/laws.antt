pub mod Root
pub mod Wheel
