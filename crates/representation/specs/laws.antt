pub mod Tests
pub mod Lists
pub mod Sounds
pub mod Sizes
pub mod Steps
pub mod Replaced
pub mod Monics
