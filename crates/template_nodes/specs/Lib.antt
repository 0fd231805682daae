-- What a template compiles to.
-- the nodes of a template, step by step
pub mod Template
-- what is at a place outside quotes: a pattern first, and then a literal
pub mod Elements
-- templates and their nodes, worked out
pub mod Examples
-- letters with their accents as nodes, by what comes before a mark
pub mod Joined
-- nodes as bytes, six each
pub mod Bytes
-- nothing of a template is lost but quotes, backslashes, prefixes and suffixes
pub mod Cover
