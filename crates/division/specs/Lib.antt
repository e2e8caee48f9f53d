pub mod Lent
pub mod Props
