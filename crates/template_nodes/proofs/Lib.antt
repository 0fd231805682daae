-- Laws of the compiler.
-- the cases of a literal
pub mod Steps
-- nodes are read back from the bytes that they were put into
pub mod Encoding
-- a template has at most one node for each byte, with small bits
pub mod Nodes
-- a pattern first and then a literal is a step
pub mod Elements
-- bytes that are nodes by themselves
pub mod Singles
-- the invariant of the compiler's loop
pub mod Turns
-- every template is covered by its nodes
pub mod Cover
-- the accents mode by what comes before a mark
pub mod Joined
