-- Definitions that contracts cite: Blocks sets of codes and blocks, Joined codes joined cell by cell, Held and Wants what the classes
-- hold and need, Narrow sets of codes narrowed, Full the classes in a block, Reach what a part lacks, Search the steps of the search.
-- Their laws stand in the file of that name with Laws; WithoutCellLaws has facts had by trying every number, RulesLaws what every
-- solution says of the blocks held and needed. The rules that prune are in NarrowLaws, FullLaws, ReachLaws and SearchLaws.
pub mod WithoutCellLaws
pub mod Blocks
pub mod BlocksLaws
pub mod Joined
pub mod JoinedLaws
pub mod Held
pub mod HeldLaws
pub mod Wants
pub mod WantsLaws
pub mod RulesLaws
pub mod Narrow
pub mod NarrowLaws
pub mod Full
pub mod FullLaws
pub mod Reach
pub mod ReachLaws
pub mod Search
pub mod SearchLaws
