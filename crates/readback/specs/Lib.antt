-- What is promised of reading back.
pub mod ReadBack
