-- What PostgreSQL's calendar functions compute, for every 32-bit number.
-- the Julian day of a date
pub mod ToDay
-- the date of a Julian day
pub mod ToDate
-- the weekday of a Julian day, and ISO weeks
pub mod Week
