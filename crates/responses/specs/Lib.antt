pub mod Said
pub mod Response
pub mod Responded
mod Printed
