-- The items of a line.
-- numbers of 64 and of 32 bits, and bytes in hexadecimal digits
pub mod Numbers
-- the items of a text, between its spaces
pub mod Items
