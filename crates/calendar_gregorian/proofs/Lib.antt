-- Laws of the calendar.
-- the days before a year, in closed form
pub mod Closed
-- 400 years have 146097 days, before year 0 too
pub mod Cycles
-- every day from January 1 of year 1 on has a date
pub mod Dates
-- the days since 1970-01-01, as the code counts them
pub mod DaysFrom
-- the search for the month of a day of the year
pub mod Ends
-- the table of month lengths, and the days of the first months
pub mod Lengths
-- which numbers are months, and their lengths
pub mod Months
-- a date and its day of the year determine each other
pub mod Ordinal
-- every year of 32 bits, shifted, is positive
pub mod Shift
-- an i32 as an i64, and differences
pub mod Signed
-- ISO years, weeks and weekdays, and the date back from them
pub mod Weeks
