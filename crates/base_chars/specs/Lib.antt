-- Bytes and characters of a text in UTF-8.

-- a capital letter made small, and a small letter made a capital
pub mod Fold
-- ranges of bytes
pub mod Range
-- the class of a byte: space, digit, letter, separator or other
pub mod Class
-- the length of a character by its first byte
pub mod Character
-- well-formed UTF-8, by Unicode's table
pub mod Utf8
-- sets of numbers below 128, given by bits
pub mod Sets
