-- Laws of the exported functions.
-- a compiled template answers as the template itself
pub mod Once
-- two callers get equal answers within the limits of both
pub mod Callers
-- what compiling answers, case by case
mod Compiling
-- seven numbers that are passed as i32 are those of the moment
mod Passed
-- what the accents mode counts, and what it leaves
pub mod Accents
