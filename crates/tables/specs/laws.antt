pub mod Chains
pub mod Linked
pub mod Accepted
pub mod Solved
