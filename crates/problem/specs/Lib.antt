-- Problem has the definitions that contracts cite, Answer those of what a search answers.
pub mod Problem
pub mod Answer
