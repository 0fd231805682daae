-- A moment: a year of 1 to 9999, a month, a day that its month has, an hour, a minute, a second and a microsecond.
-- It has no offset. Two moments are the same where all seven numbers are.
use Rattle.std.specs.Prelude.{◌≡◌, refl, Bool, true, false, not, ◌&&◌, ℕ, ℤ, pos, nat_abs}
use Rattle.std.proofs.Common.{arith}
use Rattle.std.specs.Int.Signed.{lt_z}
use Rattle.calendar_gregorian.specs.Civil.{length_of}
use Rattle.calendar_gregorian.specs.Gregorian.{is_leap}
use Rattle.moment_sums.specs.Within.{Within}
use Rattle.write_pieces.specs.declared.Moment.{Moment}

-- seven numbers in their order, whatever they are
abbrev pub seven_numbers : ℤ → ℤ → ℤ → ℤ → ℤ → ℤ → ℤ → Moment
seven_numbers year month day hour minute second micros =
    record { year = year; month = month; day = day; hour = hour; minute = minute; second = second; micros = micros }

-- a moment by its seven numbers, none below 0
abbrev pub moment : ℕ → ℕ → ℕ → ℕ → ℕ → ℕ → ℕ → Moment
moment y mo d h mi s us = seven_numbers (pos y) (pos mo) (pos d) (pos h) (pos mi) (pos s) (pos us)

-- a number from low to high
abbrev pub within : ℤ → ℤ → ℤ → Bool
within low high z = not (lt_z z low) && not (lt_z high z)

-- seven numbers are a moment: a year from 1 to 9999, a day that its month has, and a time of day
unfoldable pub is_moment : Moment → Bool
is_moment m =
    within (pos 1) (pos 9999) m.year
    && (within (pos 1) (pos (length_of (is_leap (nat_abs m.year)) m.month)) m.day
    && (within (pos 0) (pos 23) m.hour
    && (within (pos 0) (pos 59) m.minute
    && (within (pos 0) (pos 59) m.second && within (pos 0) (pos 999999) m.micros))))

-- the same without tests: each of the seven numbers is in its range.
-- `moment_plain` and `plain_moment` in proofs/Moments.antt prove that the two agree.
pub record PlainMoment (m : Moment) : Type 0 where
  pub year : Within 1 9999 m.year
  pub month : Within 1 12 m.month
  pub day : Within 1 (length_of (is_leap (nat_abs m.year)) m.month) m.day
  pub hour : Within 0 23 m.hour
  pub minute : Within 0 59 m.minute
  pub second : Within 0 59 m.second
  pub micros : Within 0 999999 m.micros

-- February 29 of 2024 is a day, that of 2023 is none
pub worked : (is_moment (moment 2024 2 29 23 59 59 999999) ≡ true) × (is_moment (moment 2023 2 29 0 0 0 0) ≡ false) × (is_moment (moment 0 1 1 0 0 0 0) ≡ false)
unfolding is_moment
worked = (refl, refl, refl)

-- the first of these, number by number
pub worked_plain : PlainMoment (moment 2024 2 29 23 59 59 999999)
worked_plain =
    record {
      year = record { at = 2024; is = refl; from = omega arith; to = omega arith };
      month = record { at = 2; is = refl; from = omega arith; to = omega arith };
      day = record { at = 29; is = refl; from = omega arith; to = omega arith };
      hour = record { at = 23; is = refl; from = omega arith; to = omega arith };
      minute = record { at = 59; is = refl; from = omega arith; to = omega arith };
      second = record { at = 59; is = refl; from = omega arith; to = omega arith };
      micros = record { at = 999999; is = refl; from = omega arith; to = omega arith };
    }
