-- The parts of a moment.

-- the answer to a template and an input: the parts of a moment, or a refusal
pub mod Parts
-- the moment of plain fields
pub mod Plain
-- the number of each refusal
pub mod Report
-- the range of each part, what its marks say, and the numbers of refusals
pub mod Ranges
-- what the strict switch changes
pub mod Strict
-- which pattern a refusal names
pub mod Patterns
-- worked examples: the table P1 to P15, the limits, and days without a year
pub mod Examples
