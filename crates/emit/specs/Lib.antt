-- Texts put into a lent buffer, and laws about these.
pub mod Written
pub mod Upto
pub mod PutLaws
pub mod UptoLaws
pub mod StoredLaws
pub mod NameLaws
pub mod ListLaws
