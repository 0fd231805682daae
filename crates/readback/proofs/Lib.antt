-- Laws of reading back: first the text and what reading it sets, then what the fields make.
-- what it is for seven numbers to be a moment
pub mod MomentFacts
-- where characters begin in a template
pub mod Boundaries
-- the nodes of a well-formed template are whole characters and patterns of the table
pub mod Nodes
-- which fields each piece sets, and to what
pub mod FieldSettings
-- settings may be put in any order
pub mod Filled
-- what reading does at each pattern that the writer knows
pub mod Known
-- a number of fixed width is read back
pub mod Numbers
-- what each piece's field keeps of its number
pub mod PieceNumbers
-- how far a reader may be ahead
pub mod Ahead
-- a word is found in its list by its folded bytes, whatever follows it
pub mod Words
-- the text of a piece, and what is read as if it were that text
pub mod Texts
-- the nodes of a template that is written, their pieces and their text
pub mod Sound
-- inputs that spell the nodes of a template
pub mod Spells
-- no mark follows a node in the text, if no mark of the template counts alone
pub mod Clear
-- a literal is read, and the reader stays ahead by what it may
pub mod Literals
-- a pattern is read at what spells its piece, and sets what the piece sets
pub mod Actions
-- the pieces of a full template are those of a date group, a time group and US
pub mod Groups
-- pieces of a full template do not get in each other's way
pub mod Compatible
-- reading what spells all nodes sets what all pieces set
pub mod Simulation
-- the first half of reading back: what reading the text of a full template sets
pub mod ReadText
-- the fields that the groups of a full template set
pub mod GroupFields
-- the steps from fields to a moment, where few fields are set
mod FieldSteps
-- each date group makes the date
mod DateGroups
-- each time group makes the time
mod TimeGroups
-- the second half of reading back: what the groups set is read as the moment
pub mod MomentRead
-- the theorem of reading back
pub mod ReadBack
-- writing and then reading from one buffer
pub mod Buffer
