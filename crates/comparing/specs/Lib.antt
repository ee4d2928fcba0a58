-- The comparison's answer, and laws that the comparison is proved by.
pub mod Answer
pub mod Code
pub mod Filling
pub mod Drawing
pub mod CodeLaws
pub mod FillingLaws
pub mod DrawingLaws
pub mod CompareLaws
