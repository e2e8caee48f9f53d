pub mod Reason
pub mod Numbers
pub mod Words
pub mod Read
pub mod Solve
pub mod Solved
pub mod Walk
mod Examples
pub mod laws
pub mod Admissible
