pub mod Window
pub mod Input
