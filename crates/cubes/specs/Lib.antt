-- Cubes: what they say, how they are written and read, and the formulas that say the same.
pub mod Cube
pub mod Cover
pub mod Terms
pub mod Spelled
pub mod CubeLaws
pub mod CoverLaws
pub mod TermsLaws
pub mod SpelledLaws
pub mod RowsLaws
