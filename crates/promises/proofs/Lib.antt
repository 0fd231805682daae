-- That the promises are kept.
-- each promise by the law that proves it
pub mod Promises
