-- Selection has the definitions; then what a design with some of its outputs is, that it is well formed, its columns and classes, and
-- its sheet in bytes.
pub mod Selection
pub mod PartLaws
pub mod SelectedNamesLaws
pub mod PartRightLaws
pub mod PartColumnLaws
pub mod CoarserLaws
pub mod PartClassLaws
pub mod FewerLinesLaws
pub mod SheetLaws
