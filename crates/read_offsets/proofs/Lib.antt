-- Laws of offsets that are read.
-- a pattern that reads an offset and is refused names itself
pub mod Own
