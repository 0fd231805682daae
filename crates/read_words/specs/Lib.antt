-- Words in either case, and patterns that read one.
-- the first word of a list at a place of the input
pub mod Spelling
-- months by their first letters
pub mod Months
-- the same word, found in the folded beginning of the input alone
pub mod FoldOnce
-- the number of a word, and the field that it goes into
pub mod Words
