-- What rests on the order of reading sets, which an edit in must-fail/ turns.
pub mod NodeLines
pub mod ChosenOrder
pub mod FirstReads
