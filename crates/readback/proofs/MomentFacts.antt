-- What it is for seven numbers to be a moment, as facts: `IsMoment`. Assumes nothing.
use Prim.Native.Nat.{ℕ, ◌<◌}
use Rattle.calendar_gregorian.specs.Gregorian.{Valid}

-- a date that is valid, and a time of day
pub record IsMoment (y mo d h mi s us : ℕ) : Type 0 where
  pub date : Valid y mo d
  pub hour : h < 24
  pub minute : mi < 60
  pub second : s < 60
  pub micros : us < 1000000
