-- The numbers that a panel is refused by, for a caller in C.
pub mod PanelNumberLaws
