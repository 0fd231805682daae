-- Laws of texts in buffers.
-- texts put one after the other, and what is left off where a buffer ends
pub mod Puts
-- the digits of a number, found from the last on
mod Digits
-- the magnitude of a number and its text, by its sign
pub mod Magnitude
-- a part of a buffer moved to its front
mod Moves
-- where a byte is, from a place on
mod Places
