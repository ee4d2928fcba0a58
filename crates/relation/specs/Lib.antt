-- Relation has the definitions that contracts of other crates cite, RelationLaws the laws that callers need; Refining has what the own
-- functions promise, RefiningLaws what their proofs need, RangeLaws what a closure asked of a range says.
pub mod Relation
pub mod RelationLaws
pub mod RangeLaws
pub mod Refining
pub mod RefiningLaws
