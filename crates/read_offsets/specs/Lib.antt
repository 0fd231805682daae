-- Patterns that read an offset.
-- the sign, the hours and the minutes of an offset, and the fields that they go into
pub mod Offsets
