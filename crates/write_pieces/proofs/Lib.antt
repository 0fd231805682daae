-- Laws of the pieces.

-- texts and digits put into a buffer
pub mod Puts
-- a word in a case, byte by byte and folded
pub mod Cased
-- the length of a marker
mod Markers
-- the names of months in the table of the code
mod Months
-- the table of the code has each pattern's piece
pub mod PieceTable
-- the texts of pieces, and their lengths
pub mod Lengths
-- a moment by its tests and by its ranges, its numbers, and the calendar's for its date
pub mod Moments
