-- The laws that the proofs cite.
pub mod Words
pub mod Packs
pub mod Operators
pub mod Lookup
pub mod Matches
