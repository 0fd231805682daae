-- The tables of PostgreSQL's formatting.c, and what is looked up in them.
-- the date patterns: their names, whether they are read as digits, their date modes
pub mod Patterns
-- the case of a pattern: capitals, small letters, or title case
pub mod Cases
-- names laid out in rows of equal width
pub mod Rows
-- the pattern at a place of a template, and where the search for it starts
pub mod Search
-- names as numbers, compared at once
pub mod Numbers
-- the prefixes and suffixes of a pattern
pub mod Affixes
-- the words of each list
pub mod Words
