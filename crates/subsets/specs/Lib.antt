-- Subset has the definitions that contracts and causes cite, SubsetLaws what members there are and where, OrderLaws that one of two sets
-- is earlier; Rank the number that puts sets of equal number in order, Listed the members in an array, with their laws; Worked a few
-- sets, as theorems.
pub mod Subset
pub mod SubsetLaws
pub mod OrderLaws
pub mod Rank
pub mod RankLaws
pub mod Listed
pub mod ListedLaws
pub mod Worked
