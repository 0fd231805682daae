-- Instants and days, counted from 1970.

-- the instant and the day of an input by a template
pub mod ByTemplate
-- the instant and the day of a moment's parts
pub mod Instant
-- the same counted by the calendar, for dates of the years 1 to 9999
pub mod Plain
-- the number of each refusal
pub mod Report
-- what every instant and day keeps to
pub mod Ranges
