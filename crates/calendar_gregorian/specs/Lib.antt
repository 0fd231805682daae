-- The calendar by its own rules, and the same over every number that the code takes.
-- leap years, month lengths, Julian day numbers, valid dates
pub mod Gregorian
-- weekdays, and the ISO year and week of a date
pub mod IsoWeek
-- the same over whole numbers of either sign, and the days since 1970-01-01
pub mod Civil
