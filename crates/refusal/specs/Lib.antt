-- What refusals are called: the number of each question, and a refusal by a number and a line.
pub mod Number
