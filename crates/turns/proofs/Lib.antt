-- `TurnLaws` has what is held once the open branch is dropped or listed, and at the beginning of a run.
pub mod TurnLaws
