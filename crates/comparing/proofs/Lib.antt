-- What the proofs here share.
pub mod RowLaws
