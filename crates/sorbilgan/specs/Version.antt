-- The version of the exported functions and records: include/sorbilgan.h and the crates over the library have the same.
use Rattle.std.specs.Prelude.{ℕ}

-- it rises by one whenever a function, a record or the number of a refusal is added or changed
abbrev pub version : ℕ
version = 4
