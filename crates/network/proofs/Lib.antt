-- What the proofs here share.
pub mod Arrays
