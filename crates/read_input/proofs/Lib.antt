-- Laws of reading.
-- a pattern by the verdict on what it read
pub mod Verdicts
-- without FX no more spaces are skipped than the input has bytes
pub mod Payable
-- the loop over the nodes
pub mod Turns
-- a refusal of reading names a pattern of the nodes
pub mod Own
-- the digits of a fraction that are kept are 0 to 6
pub mod Precision
-- a pattern in the lane
mod Plainly
