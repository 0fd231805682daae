-- ISO 8601 weeks: a week begins on Monday, and week 1 of a year is the one with January 4.
use Rattle.std.specs.Prelude.{◌≡◌, refl, ℕ, ◌+◌, ◌-◌, ◌*◌, ◌/◌, ◌%◌, ltb}
use Rattle.base_notation.specs.Choice.{when◌then◌else◌}
use Rattle.calendar_gregorian.specs.Gregorian.{leap, before_year, day_number}

-- the weekday of a Julian day, Monday 1 to Sunday 7: day 0 was a Monday
abbrev pub iso_weekday : ℕ → ℕ
iso_weekday j = j % 7 + 1

-- the Monday of a day's week
abbrev pub monday : ℕ → ℕ
monday j = j - j % 7

-- the Monday of week w of an ISO year
unfoldable pub iso_monday : ℕ → ℕ → ℕ
iso_monday y w = monday (day_number y 1 4) + 7 * (w - 1)

-- the ISO year of a date: the date's own year, or the one before or after it, by where week 1 begins
unfoldable pub iso_year : ℕ → ℕ → ℕ → ℕ
iso_year y m d =
    when ltb (day_number y m d) (iso_monday y 1) then y - 1
    else when ltb (day_number y m d) (iso_monday (y + 1) 1) then y
    else y + 1

-- the ISO week of a date, from 1
unfoldable pub iso_week : ℕ → ℕ → ℕ → ℕ
iso_week y m d = (day_number y m d - iso_monday (iso_year y m d) 1) / 7 + 1

-- unfolds all that an ISO week is computed by, for worked examples
unfoldable pub weeks_compute : ℕ
unfolding iso_year iso_week iso_monday leap before_year
weeks_compute = 0

-- Friday, January 1 of 2021 belongs to week 53 of 2020
pub new_year : (iso_year 2021 1 1 ≡ 2020) × (iso_week 2021 1 1 ≡ 53) × (iso_weekday (day_number 2021 1 1) ≡ 5)
unfolding weeks_compute
new_year = (refl, refl, refl)

-- Monday, December 30 of 2019 belongs to week 1 of 2020
pub year_end : (iso_year 2019 12 30 ≡ 2020) × (iso_week 2019 12 30 ≡ 1) × (iso_weekday (day_number 2019 12 30) ≡ 1)
unfolding weeks_compute
year_end = (refl, refl, refl)
