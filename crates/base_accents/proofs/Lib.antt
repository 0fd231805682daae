-- Laws of letters with accents.
-- marks: their bytes, and the marks in front of a text
pub mod Marks
-- the length of a character in each mode
pub mod Measures
-- characters in texts that are UTF-8
pub mod Texts
