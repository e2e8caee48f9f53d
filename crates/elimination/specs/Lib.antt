pub mod Calls
pub mod Eliminates
pub mod Numbers
pub mod Promise
pub mod Worked
