-- The time of day and the offset.
-- hour, minute, second, fraction and offset, and their ranges
pub mod Time
