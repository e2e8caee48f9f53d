pub mod laws
pub mod ExtentLaws
pub mod Examples
