-- The limits (section 2 of docs/SPECIFICATION.md) and what follows from them.
pub mod Limits
