-- `ChangeLaws` has a branch against itself without a member, and with a member of P moved to T.
pub mod ChangeLaws
