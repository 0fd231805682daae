-- The items of a question.
-- numbers, a place, and the bytes of a text
pub mod Items
