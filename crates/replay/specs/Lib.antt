-- The answers to questions.
-- the answer to each question, as text
pub mod Answers
-- questions and their answers, worked out
pub mod Examples
