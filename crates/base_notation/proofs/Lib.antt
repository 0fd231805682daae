-- a byte other than 0 is within its text
pub mod Bytes
-- a choice by its test, and tests that are joined
pub mod Cases
-- how large a sum or a difference of whole numbers is
pub mod Magnitudes
-- a table's rule at each entry, from one test over the whole table
pub mod Table
