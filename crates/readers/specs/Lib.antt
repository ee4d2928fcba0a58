-- Masks has the definitions that contracts cite, Groups those of groups of cells with the same readers, Known those of known
-- digits of cell 0; each has its laws in a file of its own. NeedsLaws has the laws of the bounds on blocks, AnswerLaws what the
-- search's answer means.
pub mod Masks
pub mod MasksLaws
pub mod NeedsLaws
pub mod Groups
pub mod GroupsLaws
pub mod Known
pub mod KnownLaws
pub mod AnswerLaws
