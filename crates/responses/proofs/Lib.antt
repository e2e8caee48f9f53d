pub mod SaidLaws
pub mod ResponseLaws
