-- Laws of the year.
-- a year that is refused names no pattern
pub mod Unnamed
