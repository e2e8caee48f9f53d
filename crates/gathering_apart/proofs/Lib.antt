pub mod EndedLaws
