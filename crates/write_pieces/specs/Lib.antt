-- What is written for a pattern at a moment.

-- a moment: seven numbers, and which are one
pub mod Moment
-- words in a case: markers of the half of the day, and names of months
pub mod Words
-- the piece of each pattern, and the text of each piece
pub mod Pieces
-- a text put into a buffer
pub mod Output
-- the piece of each pattern as a table of letters
pub mod Tables
