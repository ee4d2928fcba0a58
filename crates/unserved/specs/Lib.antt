-- Unserved has the definitions that the contract cites, Asking those of the private functions. MemberLaws: the members of a set are asked
-- about in its place. MissedLaws, WithoutLaws, FewerLaws: a set with a dominated output is served where the smaller sets are.
-- QuestionLaws what one question tells, SiftedLaws what the sets of one number tell, AnsweredLaws what all tell.
pub mod Unserved
pub mod Asking
pub mod MemberLaws
pub mod MissedLaws
pub mod WithoutLaws
pub mod FewerLaws
pub mod QuestionLaws
pub mod SiftedLaws
pub mod AnsweredLaws
