-- What the tests choose.
pub mod Choices
