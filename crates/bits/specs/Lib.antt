-- Binary digits of numbers, and the laws that the crates above cite.
pub mod Logic
pub mod LogicLaws
pub mod Digit
pub mod DigitLaws
pub mod Carry
pub mod CarryLaws
pub mod Values
pub mod ValuesLaws
pub mod Count
pub mod CountLaws
pub mod Filled
pub mod FilledLaws
pub mod ShiftLaws
pub mod Every
pub mod EveryLaws
