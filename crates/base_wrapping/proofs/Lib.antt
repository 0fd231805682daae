-- wrapping as the library states it
mod Wraps
-- what fits an i32, and so reads back from its bits as itself
pub mod Fits
-- small naturals, which do not wrap
pub mod Small
