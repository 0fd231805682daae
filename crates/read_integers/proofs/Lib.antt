-- Laws of numbers that are read from the input.
-- each answer of the code is the definition's, and what was read ends within the input
pub mod Numbers
-- few digits right at a place
pub mod FewDigits
-- where no number begins
pub mod NoNumber
-- a number that is refused names its own pattern
pub mod Own
