-- The lines of a network sheet as the code puts them down, and laws about these.
pub mod Room
pub mod Lines
pub mod DigitLaws
pub mod Running
pub mod RunningLaws
pub mod TextLaws
pub mod NodeLaws
pub mod SheetLaws
pub mod WrittenLaws
