-- Laws of instants and days.

-- the order of whole numbers: a sum is below a bound where one summand is below the bound less the other
mod Order
-- numbers tested against the ends of the 64-bit range
mod Range
-- the seconds of a moment's parts, and their microseconds, fit 64 bits
pub mod Seconds
-- rounding half away from 2000
mod Rounding
-- for the years 1 to 9999 the instant and the day are the calendar's
pub mod Plain
-- why there is no instant or no day names no pattern, or one of the template's
pub mod Own
-- every instant and day of an answer is in range, or refused by its number
pub mod Ranges
