-- Lines of text in lent buffers.
-- a text put into a buffer from a place on
pub mod Output
-- a number in decimal digits
pub mod Decimal
-- where a byte is, and what a buffer keeps of an unfinished line
pub mod Input
