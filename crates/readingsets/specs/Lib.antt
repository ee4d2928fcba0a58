-- Choice has the definitions that contracts cite, ChoiceLaws their laws, ServedLaws those of an output that given tables serve alone;
-- Answered has the parts of what `choose` answers.
pub mod Choice
pub mod Answered
pub mod ChoiceLaws
pub mod ServedLaws
