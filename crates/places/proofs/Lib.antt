-- `PlaceLaws` has what a polynomial put in or taken out leaves, with the branch's counts and its end written anew.
pub mod PlaceLaws
