-- What is compared, Check's answer, and laws that Check's code is proved by.
pub mod Beside
pub mod Answer
pub mod Limits
pub mod CheckLaws
