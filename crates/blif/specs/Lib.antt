-- The text in BLIF, what a reader of BLIF makes of a text, and Export; laws that its code is proved by.
pub mod Printer
pub mod Words
pub mod Model
pub mod Reader
pub mod Value
pub mod Export
pub mod Simulated
pub mod Answer
pub mod Room
pub mod Texts
pub mod Ready
pub mod Computing
pub mod Worked
-- the text and its reading
pub mod IsWord
pub mod IsWordLaws
pub mod DesignWordLaws
pub mod WordsLaws
pub mod PlainLaws
pub mod Modelled
pub mod SaidLaws
pub mod ReadLaws
pub mod Longest
pub mod LengthLaws
-- values
pub mod StandLaws
pub mod OnceLaws
pub mod CellNameLaws
pub mod CellNames
pub mod NamesOnceLaws
pub mod MatchLaws
pub mod DriverLaws
pub mod ValueLaws
-- Export
pub mod OutcomeLaws
pub mod SimulatedLaws
-- the code
pub mod ItemLaws
pub mod RowLaws
pub mod BlockLaws
pub mod PassedLaws
pub mod AnswerLaws
