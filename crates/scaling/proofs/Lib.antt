pub mod ScaledLaws
