pub mod Each
pub mod Prime
pub mod Residue
pub mod Field
pub mod laws
