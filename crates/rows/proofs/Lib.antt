-- The laws that the loops and the constant table cite.
pub mod Fill
pub mod Masks
pub mod Put
