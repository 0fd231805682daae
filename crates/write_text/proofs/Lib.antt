-- Laws of writing.

-- the texts of nodes, and their lengths
pub mod Lengths
-- each of the eight markers writes in its own case
pub mod OwnCase
-- each of the six patterns of month names writes the month's
pub mod ByName
-- a length that is answered is the text's, and no longer than the buffer
pub mod Room
-- what the loops over the nodes have left
mod Turns
-- the cases of the writer's answer
mod Answers
-- why nothing is written names no pattern, or one of the template's
pub mod Own
-- the text is the same in both modes of characters
pub mod Modes
