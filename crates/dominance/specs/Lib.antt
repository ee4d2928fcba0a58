-- Kept has the definitions that contracts cite, KeptCellsLaws that cells serve all outputs where they serve those kept,
-- KeptLaws that an answer for these is one for all; Dominance and DominanceLaws what the code's own proofs need.
pub mod Kept
pub mod KeptCellsLaws
pub mod KeptLaws
pub mod Dominance
pub mod DominanceLaws
