-- the pieces of a number, read one after another, make the whole
pub mod Joined
-- the spaces or digits in front of a text, byte by byte
pub mod Leading
-- digits of a fixed width are read as the number that they were written from
pub mod Decimals
-- digits read one by one up to a limit
pub mod Digits
-- where the end of a number is
pub mod Places
-- a number of few digits right at a place
pub mod FewDigits
-- the byte at a place, where a sign can be
pub mod Signs
-- a number without a sign, after spaces or not
pub mod Unsigned
