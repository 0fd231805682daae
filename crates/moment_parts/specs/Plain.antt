-- The moment of plain fields, which takes no other steps than those of year, month, day, hour, minute, second and
-- microsecond.
use Rattle.std.specs.Prelude.{◌≡◌, refl, Bool, true, false, not, ◌&&◌, List, [], ◌∷◌, ℕ, ℤ, pos, nat_abs, None}
use Rattle.std.specs.Int.Signed.{lt_z}
use Rattle.base_notation.specs.Choice.{when◌then◌else◌}
use Rattle.calendar_gregorian.specs.Civil.{length_of}
use Rattle.calendar_gregorian.specs.Gregorian.{is_leap}
use Rattle.read_fields.specs.Fields.{get, put, no_fields, is_zero, hh, mi, ss, ssss, dd, ddd, mm, ms, year, bc, ww, w, cc, j, us, clock, tzsign, ff}
use Rattle.read_fields.specs.declared.Fields.{Fields}
use Rattle.moment_time.specs.Time.{◌or◌, time_in_range}
use Rattle.moment_parts.specs.declared.Parts.{Parts}

-- the fields of a list are absent
abbrev pub absent_all : Fields → List ℕ → Bool
absent_all f [] = true
absent_all f (k ∷ ks) = is_zero (get f k) && absent_all f ks

-- plain fields: the date is of year, month and day alone, the time of no clock of twelve and no seconds of the day, and
-- there are no milliseconds and no offset
unfoldable pub is_plain : Fields → Bool
is_plain f = absent_all f (j ∷ ww ∷ w ∷ ddd ∷ cc ∷ bc ∷ clock ∷ ssss ∷ ms ∷ tzsign ∷ [])

-- a month or a day, or the first where it is absent
unfoldable pub or_first : ℤ → ℤ
or_first z = z or pos 1

-- the marks of a date with a year: 1 for it, 2 for a month and 4 for a day
unfoldable pub plain_marks : ℤ → ℤ → ℕ
plain_marks m n = when is_zero m then (when is_zero n then 1 else 5) else when is_zero n then 3 else 7

-- the month has the day in that year; no other number than 1 to 12 has one
unfoldable pub has_day : ℤ → ℤ → ℤ → Bool
has_day y m n = not (lt_z n (pos 1)) && not (lt_z (pos (length_of (is_leap (nat_abs y)) m)) n)

-- the fields are plain, with a year above 0, the month has the day, and the time is in range
unfoldable pub has_plain_moment : Fields → Bool
has_plain_moment f =
    is_plain f && (not (lt_z (get f year) (pos 1))
    && (has_day (get f year) (or_first (get f mm)) (or_first (get f dd)) && time_in_range (get f hh) (get f mi) (get f ss) (get f us)))

-- the parts of that moment
unfoldable pub plain_parts : Fields → Parts
plain_parts f = record {
  year = get f year;
  month = or_first (get f mm);
  day = or_first (get f dd);
  hour = get f hh;
  minute = get f mi;
  second = get f ss;
  micros = get f us;
  precision = get f ff;
  offset = None;
  marks = plain_marks (get f mm) (get f dd);
}

-- fields of a date, and of a clock
abbrev pub dated : ℕ → ℕ → ℕ → ℕ → Fields
dated y m n hours = put (put (put (put no_fields year (pos y)) mm (pos m)) dd (pos n)) clock (pos hours)

-- 2024 has a February 29 and no 30th, and 2023 has none; a clock of twelve and the year 0 take other steps
pub worked
    : (has_plain_moment (dated 2024 2 29 0) ≡ true) × (has_plain_moment (dated 2024 2 30 0) ≡ false) × (has_plain_moment (dated 2023 2 29 0) ≡ false)
    × (has_plain_moment (dated 2024 2 29 12) ≡ false) × (has_plain_moment (dated 0 2 29 0) ≡ false)
unfolding has_plain_moment is_plain has_day or_first time_in_range
worked = (refl, refl, refl, refl, refl)

-- without a day it is the first, and the day has no mark
pub unmarked : ((plain_parts (dated 2024 2 0 0)).day ≡ pos 1) × ((plain_parts (dated 2024 2 0 0)).marks ≡ 3)
unfolding plain_parts or_first plain_marks
unmarked = (refl, refl)
