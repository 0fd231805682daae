-- Numbers as C's strtol reads them.

-- the spaces and the digits in front of a text
pub mod Runs
-- strtol, and numbers of few digits
pub mod Strtol
-- a number written in a fixed width
pub mod Decimal
