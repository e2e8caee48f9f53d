-- `ChoiceLaws` has the rule that the survey chose; `PivotLaws` the pivot loaded, and rules 4 and 5; `SplitLaws` rule 3; `PrepareLaws` what the proofs
-- of the functions share.
pub mod ChoiceLaws
pub mod PivotLaws
pub mod PrepareLaws
pub mod SplitLaws
