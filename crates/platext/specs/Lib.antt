-- The PLA text: its lines, what it says and which can be written, and what the code holds of it.
pub mod Lines
pub mod Text
pub mod Writable
pub mod Reading
pub mod LineLaws
pub mod TextPrintLaws
pub mod TextReadLaws
pub mod TextLaws
pub mod BadLineLaws
pub mod WritableLaws
pub mod LinePassLaws
pub mod CountLaws
pub mod GatheringLaws
pub mod LineReadLaws
pub mod CubesLaws
pub mod HeadLaws
pub mod SizeLaws
