-- What reading each pattern does.
-- the fields that are read, and the place that reading has come to
pub mod Fields
-- the task of each pattern, and the table of tasks
pub mod Tasks
