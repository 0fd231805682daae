-- Laws of the fields and of the table of tasks.
-- the table has each pattern's task, and the task's field is one of the 24
pub mod Assigned
-- the test whether a field holds another value
pub mod Held
-- the pattern that a refused reading names
pub mod Own
-- the rows of the patterns as a table
pub mod Rows
