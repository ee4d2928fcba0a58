-- Laws that rest on the definition of Map's outcomes.
pub mod OneOutcome
pub mod WrittenLaws
