-- Laws of the time of day and of offsets.
-- hours and minutes of an offset, joined, fit an i32
pub mod Offsets
-- an hour, a fraction or an offset that is refused names no pattern
pub mod Unnamed
