-- Rows of input values, and truth tables of up to 1,024 rows in sixteen words.
pub mod PartLaws
pub mod Row
pub mod RowLaws
pub mod Words
pub mod WordLaws
pub mod Digits
pub mod DigitLaws
pub mod Step
pub mod StepLaws
pub mod WorkedStep
