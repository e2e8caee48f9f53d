-- `PutLaws` has when a put keeps the branch, and when it adds the polynomial.
pub mod PutLaws
