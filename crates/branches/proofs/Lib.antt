-- `AreaLaws` has where the polynomials of the open branch lie in the records and what putting one in or taking one out leaves; `ControlLaws` what the control
-- record says of the systems; `OpenLaws` what the open branch's own record leads to; `LeavesLaws` what is left where there may be no room; `LengthLaws` what
-- work areas of one length hold; `MemberLaws` where a member of P or Q lies; `RowLaws` the words of the control record and of the open branch's own; `Unique`
-- that records hold one P and one Q only.
pub mod AreaLaws
pub mod ControlLaws
pub mod LeavesLaws
pub mod LengthLaws
pub mod MemberLaws
pub mod OpenLaws
pub mod BeyondLaws
pub mod RowLaws
pub mod Unique
