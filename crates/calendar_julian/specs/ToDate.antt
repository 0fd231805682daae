-- What j2date computes: the date of a Julian day, in 32-bit arithmetic that wraps.
use Rattle.std.specs.Prelude.{◌≡◌, ℕ, ◌+◌, ◌-◌, ◌*◌, ◌/◌, ◌%◌, ◌^◌, ℤ, pos, negsuc, ◌-ℤ◌, nat_eq, refl}
use Rattle.base_notation.specs.Choice.{when◌then◌else◌}
use Rattle.base_wrapping.specs.Wrap.{low32}
use Rattle.calendar_julian.specs.declared.Date.{Date}

-- the days from March 1 of year -4800
unfoldable pub shifted : ℤ → ℕ
shifted jd = (low32 jd + 32044) % 2 ^ 32

-- the same from January 1, with the leap days that centuries skip added: three in 146097 days
unfoldable pub with_skipped : ℕ → ℕ
with_skipped days = (days + (60 + days / 146097 * 3 + ((days - days / 146097 * 146097) * 4 + 3) / 146097)) % 2 ^ 32

-- the day of four years, from 0
abbrev pub day_of_four : ℕ → ℕ
day_of_four days = days - days / 1461 * 1461

-- the year of the four, from 0, on such a day
abbrev pub year_of_four : ℕ → ℕ
year_of_four day = day * 4 / 1461

-- a day of four years as a day from March 1 of its year, plus 123
unfoldable pub day_from_march : ℕ → ℕ
day_from_march day = (when nat_eq (year_of_four day) 0 then (day + 306) % 366 else (day + 305) % 365) + 123

-- the month of such a day: March is 4, February 15
abbrev pub month_from_march : ℕ → ℕ
month_from_march day = day * 2141 / 65536

-- the month as a date has it
abbrev pub month_of : ℕ → ℕ
month_of day = (month_from_march day + 10) % 12 + 1

-- the day of the month
abbrev pub day_of : ℕ → ℕ
day_of day = day - 7834 * month_from_march day / 256

-- a date by its three numbers
abbrev pub date : ℤ → ℤ → ℤ → Date
date y m d = record { year = y; month = m; day = d }

-- the date of a Julian day
unfoldable pub j2date : ℤ → Date
j2date jd =
    let days = with_skipped (shifted jd) in
    let day = day_from_march (day_of_four days) in
    date (pos (year_of_four (day_of_four days) + days / 1461 * 4) -ℤ pos 4800) (pos (month_of day)) (pos (day_of day))

-- January 1 of 2000
pub y2000 : j2date (pos 2451545) ≡ date (pos 2000) (pos 1) (pos 1)
unfolding j2date day_from_march with_skipped shifted
y2000 = refl

-- the day before day 0
pub before_zero : j2date (negsuc 0) ≡ date (negsuc 4712) (pos 11) (pos 23)
unfolding j2date day_from_march with_skipped shifted
before_zero = refl

-- the smallest number, which counts as the one past the largest
pub smallest : j2date (negsuc 2147483647) ≡ date (pos 5874898) (pos 6) (pos 4)
unfolding j2date day_from_march with_skipped shifted
smallest = refl
