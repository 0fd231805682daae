-- Laws of spaces and literals.
-- the spaces that are skipped end within the input
pub mod Literals
