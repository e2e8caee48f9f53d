-- `Laws` has what a turn of each loop does to the lists.
pub mod Laws
