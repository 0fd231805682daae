-- Laws of items and of digits.
-- the bytes of pairs of hexadecimal digits
mod Hex
-- the items of a text, one after another
pub mod Items
