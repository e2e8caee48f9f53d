-- `DeliverLaws` has the records that the list of systems needs; `AnswerLaws` the answer of a finished run whose list is written.
pub mod AnswerLaws
pub mod DeliverLaws
