-- Laws of PostgreSQL's calendar functions. For the years 1 to 9999 they compute what the calendar says.
-- the fields of a date fit an i32
mod Fields
-- a remainder and a quotient by seven fit an i32
mod Sevens
-- `j2date` on a year from March and a day of it
mod Cycles
-- `date2j` is the Julian day number
pub mod DayNumber
-- `j2date` gives a date back from its day number
pub mod Inverse
-- weekdays and weeks are those of ISO 8601
pub mod IsoWeeks
-- sums, differences and products of i32 by their bits
mod Wrapping
