pub mod CheckLaws
pub mod Following
