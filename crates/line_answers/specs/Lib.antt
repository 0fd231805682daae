-- The answer to a line of input.
-- the items of an answer: numbers, patterns and reports as text
pub mod Items
-- what each answer says
pub mod Answers
-- the seven numbers of a moment
pub mod Moments
-- the answer to a line in each mode
pub mod Lines
-- worked examples: lines in each mode
pub mod Examples
