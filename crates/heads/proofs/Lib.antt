-- `Walk` has stored polynomials passed one after the other, and what a head and a first term say; `One` the polynomial 1.
pub mod One
pub mod Walk
