pub mod Answer
pub mod Delivered
