-- What a caller in C is told, by which numbers each operation refuses, and that the line of a refusal is where the examination stopped.
pub mod Report
pub mod Numbers
pub mod Stopped
pub mod NumberLaws
pub mod CauseReportLaws
pub mod LineReportLaws
pub mod RefusalLaws
pub mod FoundLaws
pub mod SheetStopLaws
pub mod NetworkStopLaws
pub mod LimitStopLaws
pub mod StoppedLaws
