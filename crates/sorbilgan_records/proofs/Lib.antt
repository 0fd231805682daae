-- Laws of what is stored in a record.
-- what `put_value` stored is the record of an answer
pub mod Values
-- every record is that of an answer in range, or of a refusal by its number
pub mod Ranges
