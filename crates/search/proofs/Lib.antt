-- `Pass` has the pass over P for the pivot; `Others` that for another polynomial.
pub mod Others
pub mod Pass
