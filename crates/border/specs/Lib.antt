-- Line has the form of a line and what is read from it, LineLaws what its reader and the search need; RecalledLaws what a cache says of
-- the next problem.
pub mod Line
pub mod LineLaws
pub mod RecalledLaws
