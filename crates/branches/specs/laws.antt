pub mod Fitted
pub mod Words
