-- Theorem A, both ways: what rests on the definitions that the edits in must-fail/ turn.
pub mod Serves
pub mod Computes
