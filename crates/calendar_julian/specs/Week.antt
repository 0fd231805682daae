-- What j2day, isoweek2j, date2isoweek and date2isoyear compute, in 32-bit arithmetic that wraps.
use Rattle.std.specs.Prelude.{◌≡◌, ℕ, ℤ, pos, ◌+ℤ◌, int_lt, int_rem, refl}
use Rattle.base_notation.specs.Choice.{when◌then◌else◌}
use Rattle.base_wrapping.specs.Wrap.{wrap32, ◌⊕◌, ◌⊖◌, ◌⊗◌, ◌÷◌}
use Rattle.calendar_julian.specs.ToDate.{shifted, with_skipped, day_from_march, j2date}
use Rattle.calendar_julian.specs.ToDay.{from_march, date2j}

-- the remainder by seven, never negative
abbrev pub mod7 : ℤ → ℤ
mod7 z = when int_lt (int_rem z (pos 7)) (pos 0) then int_rem z (pos 7) +ℤ pos 7 else int_rem z (pos 7)

-- the weekday of a Julian day, Sunday 0 to Saturday 6
unfoldable pub j2day : ℤ → ℤ
j2day date = mod7 (date ⊕ pos 1)

-- the Monday of week 1, which has January 4
unfoldable pub week_one : ℤ → ℤ
week_one year = let day4 = date2j year (pos 1) (pos 4) in day4 ⊖ j2day (day4 ⊖ pos 1)

-- the Monday of a week
unfoldable pub isoweek2j : ℤ → ℤ → ℤ
isoweek2j year week = (week ⊖ pos 1) ⊗ pos 7 ⊕ week_one year

-- the year from whose week 1 a day is counted: the year before, if the day is before week 1
unfoldable pub counted_from : ℤ → ℤ → ℤ
counted_from day year = when int_lt day (week_one year) then year ⊖ pos 1 else year

-- the week of a day, counted from week 1 of a year
unfoldable pub week_of : ℤ → ℤ → ℤ
week_of day year = (day ⊖ week_one year) ÷ pos 7 +ℤ pos 1

-- the ISO year of a day that is counted from the year `from`: `next`, if the day is past week 51 and not before
-- week 1 of `next`
unfoldable pub week_year : ℤ → ℤ → ℤ → ℤ
week_year day from next =
    when int_lt (week_of day from) (pos 52) then from
    else when int_lt day (week_one next) then from
    else next

-- the ISO week of a date
unfoldable pub date2isoweek : ℤ → ℤ → ℤ → ℤ
date2isoweek y m d =
    let day = date2j y m d in
    week_of day (week_year day (counted_from day y) (y ⊕ pos 1))

-- the year of the ISO week of a date; unlike `date2isoweek` it looks at the year after the one that it counts from
unfoldable pub date2isoyear : ℤ → ℤ → ℤ → ℤ
date2isoyear y m d =
    let day = date2j y m d in
    let from = counted_from day y in
    week_year day from (from ⊕ pos 1)

-- unfolds all that dates, Julian days and ISO weeks are computed by, for worked examples
unfoldable pub julian_computes : ℕ
unfolding j2date day_from_march with_skipped shifted date2j from_march j2day week_one isoweek2j counted_from week_of week_year date2isoweek date2isoyear wrap32
julian_computes = 0

-- January 1 of 2000 was a Saturday
pub y2000 : j2day (pos 2451545) ≡ pos 6
unfolding julian_computes
y2000 = refl

-- week 53 of 2020 begins on December 28
pub week53 : isoweek2j (pos 2020) (pos 53) ≡ date2j (pos 2020) (pos 12) (pos 28)
unfolding julian_computes
week53 = refl

-- January 1 of 2021 is in it
pub new_year : (date2isoyear (pos 2021) (pos 1) (pos 1) ≡ pos 2020) × (date2isoweek (pos 2021) (pos 1) (pos 1) ≡ pos 53)
unfolding julian_computes
new_year = (refl, refl)

-- January 1 of the largest year is in week 52 of the year before
pub largest_year : (date2isoyear (pos 2147483647) (pos 1) (pos 1) ≡ pos 2147483646) × (date2isoweek (pos 2147483647) (pos 1) (pos 1) ≡ pos 52)
unfolding julian_computes
largest_year = (refl, refl)
