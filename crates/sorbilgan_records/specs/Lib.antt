-- Answers as records.
-- the entries of the records of parts, instants and days
pub mod Records
-- what every record keeps to
pub mod Ranges
