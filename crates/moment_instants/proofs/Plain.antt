-- The instant and the day of a date and time of the years 1 to 9999 are the calendar's. Assumes nothing.
-- `plain_parts`: the parts of a date and time with no offset, no precision and all three marks.
-- `day_is`: their day is the calendar's, counted from 1970-01-01.
-- `instant_is`: their instant is the calendar's microseconds since then.
use Rattle.std.specs.Prelude.{None, Ok}
use mathlib.Core.Path.{◌≡◌, refl, ap, sym}
use mathlib.Core.Bool.{true, ◌&&◌}
use Prim.Native.Nat.{ℕ, zero, suc, ◌+◌, ◌-◌, ◌*◌, ◌<◌, ◌^◌}
use native.Mathlib.Nat.{zero-mul}
use native.Mathlib.Omega.{arith}
use borrow.Author.Tests.{lt-ltb, le-ltb}
use lib.IntN.{ℤ, pos, negsuc, neg_ℤ, ◌+ℤ◌, ◌*ℤ◌}
use lib.Signed.{lt_z, mag}
use Rattle.base_notation.proofs.Magnitudes.{add_mag, sub_mag}
use Rattle.calendar_gregorian.specs.Civil.{days_from_civil}
use Rattle.calendar_gregorian.specs.Gregorian.{Valid, day_number, day_number_ℤ}
use Rattle.calendar_gregorian.proofs.Dates.{first_to_last}
use Rattle.calendar_gregorian.proofs.DaysFrom.{civil}
use Rattle.moment_date.specs.Dates.{all_bits}
use Rattle.moment_parts.specs.declared.Parts.{Parts}
use Rattle.moment_instants.specs.Instant.{within, seconds_of, wall_of, less_offset, rounded_to, instant_of, day_of}
use Rattle.moment_instants.specs.Plain.{days_since_1970, micros_since_1970}
use Rattle.moment_instants.proofs.Range.{between}
use Rattle.moment_instants.proofs.Seconds.{times_mag}

-- the parts of a date and time with no offset, no precision and all three marks
abbrev pub plain_parts : ℕ → ℕ → ℕ → ℕ → ℕ → ℕ → ℕ → Parts
plain_parts y m d h mi s us = record {
  year = pos y;
  month = pos m;
  day = pos d;
  hour = pos h;
  minute = pos mi;
  second = pos s;
  micros = pos us;
  precision = pos 0;
  offset = None;
  marks = all_bits;
}

-- -n times k, and -n + t below 0
times : (n k : ℕ) → neg_ℤ (pos n) *ℤ pos k ≡ neg_ℤ (pos (n * k))
times zero k = rw (zero-mul k)
times (suc n) k = refl

less : (n t : ℕ) → t < n → neg_ℤ (pos n) +ℤ pos t ≡ neg_ℤ (pos (n - t))
less zero t h = absurd (omega arith)
less (suc n) t h =
    let same : suc n - t ≡ suc (suc n - suc t) = omega arith in
    rw (lt-ltb t (suc n) h, same)

-- microseconds from seconds
scaled : (days : ℤ) (t us : ℕ) → t < 86400 → us < 1000000
    → (days *ℤ pos 86400 +ℤ pos t) *ℤ pos 1000000 +ℤ pos us ≡ days *ℤ pos 86400000000 +ℤ pos (t * 1000000 + us)
scaled (pos n) t us h k = ap pos (omega arith)
scaled (negsuc n) t us h k =
    let same : (suc n * 86400 - t) * 1000000 - us ≡ suc n * 86400000000 - (t * 1000000 + us) = omega arith in
    rw (
      less (suc n * 86400) t (omega arith),
      times (suc n * 86400 - t) 1000000,
      less ((suc n * 86400 - t) * 1000000) us (omega arith),
      less (suc n * 86400000000) (t * 1000000 + us) (omega arith),
      same,
    )

-- a number far from the ends is an instant, or a day
plain_within : (z : ℤ) → mag z < 2 ^ 62 → within z ≡ Ok z
plain_within (pos n) h = sym (between (pos n) (le-ltb 9223372036854775806 n (omega arith)) refl)
plain_within (negsuc n) h = sym (between (negsuc n) refl (le-ltb 9223372036854775806 n (omega arith)))

plain_day : (z : ℤ) → mag z < 2147483647 → (lt_z (negsuc 2147483647) z && lt_z z (pos 2147483647)) ≡ true
plain_day (pos n) h = lt-ltb n 2147483647 h
plain_day (negsuc n) h = rw (lt-ltb n 2147483647 h)

module _ {y m d : ℕ} (v : Valid y m d) where
  civil_days : days_from_civil (pos y) (pos m) (pos d) ≡ days_since_1970 y m d
  unfolding days_since_1970 day_number_ℤ
  civil_days = civil (pos y) m d

  days_mag : mag (days_since_1970 y m d) < 2 ^ 23
  unfolding days_since_1970
  days_mag = omega (arith, sub_mag (day_number y m d) 2440588, first_to_last v)

  -- the day of the date
  pub day_is : (h mi s us : ℕ) → day_of (plain_parts y m d h mi s us) ≡ Ok (days_since_1970 y m d)
  unfolding day_of
  day_is h mi s us = rw (civil_days, plain_day (days_since_1970 y m d) (omega (arith, days_mag)))

  module _ (h mi s us : ℕ) (hour : h < 24) (minute : mi < 60) (second : s < 60) (micros : us < 1000000) where
    abbrev time : ℕ
    time = (h * 60 + mi) * 60 + s

    seconds_are : seconds_of (plain_parts y m d h mi s us) ≡ days_since_1970 y m d *ℤ pos 86400 +ℤ pos time
    unfolding seconds_of
    seconds_are = let same : h * 3600 + mi * 60 + s ≡ time = omega arith in rw (civil_days, same)

    whole_mag : mag ((days_since_1970 y m d *ℤ pos 86400 +ℤ pos time) *ℤ pos 1000000) < 2 ^ 61
    whole_mag =
        omega (
          arith,
          days_mag,
          times_mag (days_since_1970 y m d) 86400,
          add_mag (days_since_1970 y m d *ℤ pos 86400) (pos time),
          times_mag (days_since_1970 y m d *ℤ pos 86400 +ℤ pos time) 1000000,
        )

    sum_is : (days_since_1970 y m d *ℤ pos 86400 +ℤ pos time) *ℤ pos 1000000 +ℤ pos us ≡ micros_since_1970 y m d h mi s us
    unfolding micros_since_1970
    sum_is = scaled (days_since_1970 y m d) time us (omega arith) micros

    sum_mag : mag (micros_since_1970 y m d h mi s us) < 2 ^ 62
    sum_mag =
        rw (← sum_is)
        (omega (arith, whole_mag, add_mag ((days_since_1970 y m d *ℤ pos 86400 +ℤ pos time) *ℤ pos 1000000) (pos us)))

    wall_is : wall_of (plain_parts y m d h mi s us) ≡ Ok (micros_since_1970 y m d h mi s us)
    unfolding wall_of
    wall_is =
        rw (
          seconds_are,
          lt-ltb (mag ((days_since_1970 y m d *ℤ pos 86400 +ℤ pos time) *ℤ pos 1000000)) (2 ^ 63) (omega (arith, whole_mag)),
          sum_is,
        )
        (plain_within (micros_since_1970 y m d h mi s us) sum_mag)

    -- the instant of the date and time
    pub instant_is : instant_of (plain_parts y m d h mi s us) ≡ Ok (micros_since_1970 y m d h mi s us)
    unfolding instant_of less_offset rounded_to
    instant_is = rw (wall_is, plain_within (micros_since_1970 y m d h mi s us) sum_mag)
