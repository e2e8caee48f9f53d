pub mod laws
pub mod Claims
pub mod Promise
pub mod Jobs
pub mod Examples
