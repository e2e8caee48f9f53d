pub mod Area
pub mod Members
pub mod Open
pub mod Listed
pub mod Words
pub mod laws
