-- `Invariants` has the invariants of the run's three loops; `MembersLaws` the members of a division, taken out and put back one at a time; `RunLaws` the
-- run by its steps.
pub mod Invariants
pub mod MembersLaws
pub mod RunLaws
