-- Refused: which error a `?` hands on.
pub mod Refused
