-- The year that fields make.
-- the year, with a century and before Christ
pub mod Year
