-- Numbers of the input.
-- a number at a place: of a fixed width, or all digits that are there
pub mod Number
-- what follows a pattern in the template, and what an ordinal suffix skips
pub mod Suffix
-- when a field may be set
pub mod Setting
