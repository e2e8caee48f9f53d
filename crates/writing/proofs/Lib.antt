-- `Systems` has where a stored system lies; `Walk` what a turn of the walk over all of them leaves.
pub mod Systems
pub mod Walk
