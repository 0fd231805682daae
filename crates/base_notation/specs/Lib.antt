-- Notation that every crate's definitions share.

-- a choice by a test
pub mod Choice
-- texts in UTF-8, and the byte at a place
pub mod Text
