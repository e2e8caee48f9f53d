-- `MadeLaws` has terms made monic; `TakeLaws` a member taken out; `MemberLaws` what is left of a step while its members are divided.
pub mod MadeLaws
pub mod MemberLaws
pub mod TakeLaws
