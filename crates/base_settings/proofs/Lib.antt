-- Laws of settings.
-- no limit is over 256 and 512
pub mod Most
