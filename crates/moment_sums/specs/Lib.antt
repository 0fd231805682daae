-- Numbers made from fields, refused outside 32 bits.
-- sums and products that are refused outside 32 bits
pub mod Checked
-- numbers in a range
pub mod Within
