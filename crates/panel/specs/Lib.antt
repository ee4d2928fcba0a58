-- A panel that arrives as a PLA text and a second text: questions 13 and 14, the second text, the examination of both, and laws
-- about what it answers.
pub mod Questions
pub mod Board
pub mod Examine
pub mod Held
pub mod Panel
pub mod OnceLaws
pub mod WalkLaws
pub mod RefusalLaws
pub mod DesignLaws
pub mod QuestionLaws
pub mod ValueLaws
pub mod PassLaws
pub mod MarkLaws
pub mod AddLaws
pub mod OutputsLaws
pub mod BoardLaws
pub mod AskLaws
pub mod TableLaws
pub mod PairLaws
pub mod Computing
pub mod Worked
