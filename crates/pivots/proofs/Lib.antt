-- `RestLaws` has the rest of the pivot; `AimLaws` rules 4 and 5.
pub mod AimLaws
pub mod RestLaws
