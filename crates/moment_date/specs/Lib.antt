-- The date that fields make.
-- the date step by step, what of it is set, and its ranges
pub mod Dates
