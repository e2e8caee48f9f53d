-- `PieceLaws` has pieces appended over free records; `KeptLaws` the branch built of them.
pub mod BeyondKept
pub mod KeptLaws
pub mod PieceLaws
