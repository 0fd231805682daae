-- Where reading is in the input.
-- the place after spaces, after a field and after a literal
pub mod Literals
