-- Table (clause 11.2), and laws about it and the examination.
pub mod Tabulate
pub mod Sheets
pub mod Computing
pub mod Worked
pub mod Answer
pub mod SizeLaws
pub mod ExamineLaws
pub mod TableLaws
pub mod HandedLaws
