-- WalkStep: one operand more in the loop over a gate's operands.
pub mod WalkStep
