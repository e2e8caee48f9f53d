-- `Rows` has the laws of `view`.
pub mod Rows
