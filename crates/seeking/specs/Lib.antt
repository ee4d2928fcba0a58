-- Seeking has the definitions that contracts cite, SeekingLaws their laws, RoundLaws what a round's answer says.
pub mod Seeking
pub mod SeekingLaws
pub mod RoundLaws
