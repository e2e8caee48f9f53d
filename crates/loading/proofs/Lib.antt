-- `LoadLaws` has a polynomial loaded along its chain; `MonicLaws` one made monic in place; `FillLaws` the polynomials of a chain put one after the
-- other; `StartLaws` the first branch of a table.
pub mod FillLaws
pub mod LoadLaws
pub mod MonicLaws
pub mod StartLaws
