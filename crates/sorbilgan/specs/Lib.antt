-- The exported functions.
-- what compiling answers, and the buffer after it
pub mod Compiled
-- a pattern's name in six bytes, the last of them 0
pub mod Name
-- the record of a write, and the text's buffer after it
pub mod Writing
-- the promise that a compiled template answers as the template itself
pub mod Once
-- the promise that two callers get equal answers within the limits of both
pub mod Callers
-- the promise of the accents mode
pub mod Accents
-- the version of the functions and records
pub mod Version
