-- Laws of answers.
-- the text of a moment in parts, and how long answers are
mod Lengths
-- the name of a pattern in its row
mod Named
-- the seven numbers, item by item
mod Sevens
-- lines cut at the first TAB, and the text of a moment
mod Cuts
-- a text that is the same as another
mod Same
