-- The days and the microseconds since 1970-01-01, UTC, counted by the calendar.
use Rattle.std.specs.Prelude.{◌≡◌, refl, ℕ, ◌+◌, ◌*◌, ℤ, pos, negsuc, ◌+ℤ◌, ◌-ℤ◌, ◌*ℤ◌}
use Rattle.calendar_gregorian.specs.Gregorian.{before_year, day_number, leap}

-- January 1 of 1970 has the Julian day number 2440588
unfoldable pub days_since_1970 : ℕ → ℕ → ℕ → ℤ
days_since_1970 y m d = pos (day_number y m d) -ℤ pos 2440588

-- the microseconds of a day's hours, minutes, seconds and microseconds
abbrev pub micros_of_day : ℕ → ℕ → ℕ → ℕ → ℕ
micros_of_day h mi s us = ((h * 60 + mi) * 60 + s) * 1000000 + us

-- a day has 86,400,000,000 of them
unfoldable pub micros_since_1970 : ℕ → ℕ → ℕ → ℕ → ℕ → ℕ → ℕ → ℤ
micros_since_1970 y m d h mi s us = days_since_1970 y m d *ℤ pos 86400000000 +ℤ pos (micros_of_day h mi s us)

-- the last microsecond before 1970, and January 1 of 2000
pub worked
    : (days_since_1970 1969 12 31 ≡ negsuc 0) × (micros_since_1970 1969 12 31 23 59 59 999999 ≡ negsuc 0)
    × (micros_since_1970 2000 1 1 0 0 0 0 ≡ pos 946684800000000)
unfolding micros_since_1970 days_since_1970 before_year leap
worked = (refl, refl, refl)
