pub mod SystemLaws
