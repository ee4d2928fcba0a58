-- Map, Cause and Answer have the definitions that contracts cite: Map (clause 11.3) and the cause of a refusal by 8. FunctionLaws and
-- CauseFunctionLaws say that both are functions of the sheet; WrittenLaws, PermittedLaws and BuiltLaws what a mapped network is.
-- Posed and SearchInput have what a design asks of the search; PosedLaws, MapLaws, FirstLaws and CauseLaws bring the search's answer
-- back to networks, CoreNumberLaws cores to numbers. MapStepLaws and CauseStepLaws have a law for each way out of the code.
pub mod Map
pub mod PermittedLaws
pub mod FunctionLaws
pub mod BuiltLaws
pub mod Posed
pub mod MapLaws
pub mod FirstLaws
pub mod Cause
pub mod Answer
pub mod SearchInput
pub mod PosedLaws
pub mod MapStepLaws
pub mod CoreNumberLaws
pub mod CauseFunctionLaws
pub mod CauseLaws
pub mod CauseStepLaws
