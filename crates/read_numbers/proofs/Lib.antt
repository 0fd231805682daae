-- Laws of years.
-- a year with a comma: each answer of the code is the definition's, and where it ends
pub mod CommaYears
-- a pattern that reads a number and is refused names itself
pub mod Own
