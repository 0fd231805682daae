-- The answers to the lines of a text.
-- the answers to all lines that end in a text, and to those that a buffer has room for
pub mod Texts
-- the modes by their names
pub mod Modes
