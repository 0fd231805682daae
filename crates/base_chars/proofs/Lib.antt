-- a byte in a range: the test and the comparisons
pub mod Ranges
-- the class of a byte by comparisons
pub mod Classes
-- a folded byte, and a raised one
pub mod Folds
-- sets of numbers below 128, given by bits
pub mod Sets
-- the length of a character: 1 to 4, within the text
pub mod Characters
-- the row of Unicode's table that a first byte picks
pub mod Rows
-- the sequence that a list begins with: its length, and what follows it
pub mod Sequences
-- the continuations of a sequence
mod Continued
-- well-formed texts: taken apart, joined, and walked from character to character
pub mod WellFormed
-- the high bits of bytes, as one number: what lies below the lowest of them is ASCII
pub mod HighBits
