pub mod Rank
pub mod Search
