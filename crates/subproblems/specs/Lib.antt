-- Subproblem has the definitions that contracts cite, SubproblemLaws and UnreadLaws the laws that callers need, Gathering and
-- GatheringLaws what the code's own proofs need.
pub mod Subproblem
pub mod SubproblemLaws
pub mod UnreadLaws
pub mod Gathering
pub mod GatheringLaws
