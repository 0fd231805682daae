-- Patterns that read a number, and years.
-- what a pattern that reads a number does with it
pub mod Numbers
-- years with a comma, and years of few digits
pub mod Year
