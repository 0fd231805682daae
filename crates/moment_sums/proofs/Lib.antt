-- Laws of numbers made from fields.
-- remainders, differences and what was wrapped fit an i32
pub mod Fits
-- a test of a number's bits is the definition's test of the number
pub mod Tests
-- what the tests of a range say of a number
pub mod Within
-- each field that was read fits an i32
pub mod Known
-- sums and products that are refused name no pattern
pub mod Unnamed
