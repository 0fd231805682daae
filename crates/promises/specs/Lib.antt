-- All that is promised.
-- the promises, one record for each demand
pub mod Promises
-- the promises on the function that reads, which its contract cites
pub mod Reading
