-- Digits has what is known of cell 0 at vertices and classes, Merge the joint classes; DigitsLaws and MergeLaws have their
-- laws.
pub mod Digits
pub mod DigitsLaws
pub mod Merge
pub mod MergeLaws
