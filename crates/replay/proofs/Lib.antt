-- Laws of questions and their answers.
-- signed numbers in range, and the end of a number
mod Casts
-- what was read of a line, by its definition
mod Texts
-- the nodes of a template, put one by one
mod Nodes
