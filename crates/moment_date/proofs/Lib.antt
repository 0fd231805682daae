-- Laws of dates.
-- a bit that is not set in a mask was not set in its parts
pub mod Bits
-- a year that is not marked as set is 0, a month or a day is 1
pub mod Marks
-- days that a month never has
pub mod Never
-- a date that is refused names no pattern
pub mod Unnamed
