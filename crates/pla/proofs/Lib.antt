-- What rests on the definition of two designs with the same tables.
pub mod SameNetworksLaws
pub mod SameCauseLaws
pub mod SameAnswersLaws
pub mod WorkedPanel
