-- Laws of words.
-- the folded beginning of the input has the word that the input has
pub mod FoldOnce
-- that beginning, put into nine bytes one after another
mod Beginning
-- the word in a row of a table, compared byte after byte
mod Letters
-- the words of a list, searched in the rows of its table
pub mod Words
-- the month at a place, by its letters as a number
pub mod MonthLetters
-- a pattern that reads a word and is refused names itself
pub mod Own
