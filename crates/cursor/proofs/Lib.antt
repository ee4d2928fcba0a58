-- The laws that the proofs cite.
pub mod Digits
pub mod Texts
