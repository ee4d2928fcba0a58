-- The laws that the proofs cite.
pub mod Arrays
pub mod Exits
