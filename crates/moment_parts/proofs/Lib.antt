-- Laws of the parts answer.

-- every answer is a moment in range, or a refusal by its number
pub mod Ranges
-- fields that are absent, and the moment of plain fields
mod Absent
pub mod PlainMoment
-- the answer by its first tests: limits, and UTF-8
pub mod Limits
-- a refusal names no pattern, or one of the template's
pub mod Patterns
-- what the strict switch changes
pub mod Strict
