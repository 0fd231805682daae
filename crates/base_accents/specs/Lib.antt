-- A letter with its accents.
-- marks, letters, and how long a character is in each mode
pub mod Accents
