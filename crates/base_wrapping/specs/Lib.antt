-- Arithmetic of i32 that wraps.

-- the lowest 32 bits, the i32 that has them, and its arithmetic
pub mod Wrap
