-- What a cursor reads at its place, and laws about it.
pub mod Opening
pub mod Front
pub mod OpeningLaws
pub mod Item
pub mod MovedLaws
pub mod NumeralsEnd
pub mod First
pub mod NextName
pub mod OperatorRead
pub mod EatingLaws
pub mod PartLaws
pub mod ReadNumberLaws
pub mod FirstLaws
pub mod NamedLaws
pub mod OpenedLaws
pub mod NextNameLaws
pub mod GatheredLaws
