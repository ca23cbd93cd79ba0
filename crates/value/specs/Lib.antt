-- The evaluator's refusals and answers. Assumes nothing.
pub mod Evaluate
