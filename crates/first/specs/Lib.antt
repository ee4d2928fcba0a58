-- First has what the crate answers for, Drawn what its functions answer for. The other files hold laws: of lists of tables, of a core
-- in two parts, of the question about one digit and the vertices it is about, of the steps from digit to digit, and of the outputs kept.
pub mod First
pub mod Drawn
pub mod DrawnLaws
pub mod PartLaws
pub mod UptoLaws
pub mod AskLaws
pub mod LowestLaws
pub mod FirstLaws
