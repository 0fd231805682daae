-- Laws of the answers to a text.
-- the answers to a text line by line, and what holds while they are put
pub mod Texts
