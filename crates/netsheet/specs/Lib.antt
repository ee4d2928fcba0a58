-- Reading a network sheet beside a design, and laws about it.
pub mod Answer
pub mod Named
pub mod Reading
pub mod NamedLaws
pub mod HeldLaws
pub mod AskLaws
pub mod WalkLaws
