-- What differs from caller to caller.

-- the limits of a template and of an input, and who has which
pub mod Limits
-- the strict switch
pub mod Strict
-- the accents mode
pub mod Accents
-- settings as the bits of a number
pub mod Bits
