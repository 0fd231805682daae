-- Laws of the tables.
-- each byte of a row
pub mod Rows
-- the lengths and bytes of the names, and a name compared byte after byte
pub mod Names
-- the prefix or suffix at a place
pub mod Affixes
-- a name and the bytes at a place compared as numbers
pub mod Keys
-- the search from the first name with the same first byte on finds the first pattern
pub mod Search
-- the sets of patterns that are read as digits, or are in small letters or title case
pub mod Sets
