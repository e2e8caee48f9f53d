-- `Over` has a block written into a list; `Laws` what a turn of each loop writes.
pub mod Over
pub mod Laws
