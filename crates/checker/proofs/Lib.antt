-- Laws that rest on what question 11 is asked of, which the proofs here share.
pub mod LimitsLaws
pub mod PassedLaws
