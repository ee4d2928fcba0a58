-- What the lines of a network sheet list, and laws about these.
pub mod Listed
pub mod NumbersLaws
pub mod FirstLaws
