-- The calendar over every whole number: years, months and days as the code takes them.
use Rattle.std.specs.Prelude.{◌≡◌, refl, Bool, true, false, List, [], ◌∷◌, ℕ, zero, suc, ◌+◌, ℤ, pos, negsuc, nat_abs, ◌+ℤ◌, ◌-ℤ◌, get_or}
use Rattle.std.specs.Int.Signed.{le_z}
use Rattle.base_notation.specs.Choice.{when◌then◌else◌}
use Rattle.calendar_gregorian.specs.Gregorian.{is_leap, leap, lengths, before_month, before_year, back_to, day_number_ℤ}

-- the leap days of a year, by whether it is a leap year
abbrev pub leap_days : Bool → ℕ
leap_days in_leap = when in_leap then 1 else 0

-- the lengths of the months of such a year
abbrev pub lengths_in : Bool → List ℕ
lengths_in in_leap = lengths (leap_days in_leap)

-- the length of a month; no other number than 1 to 12 has one
abbrev pub length_of : Bool → ℤ → ℕ
length_of in_leap (pos zero) = 0
length_of in_leap (pos (suc i)) = get_or (lengths_in in_leap) i 0
length_of in_leap (negsuc n) = 0

-- the number of a month: a negative one counts as 0
abbrev pub month_of : ℤ → ℕ
month_of (pos m) = m
month_of (negsuc n) = 0

-- the days of a year before a month: none if its number is below 1, the whole year if it is above 12
unfoldable pub days_before : Bool → ℤ → ℕ
days_before in_leap m = before_month (leap_days in_leap) (month_of m)

-- the day of the year. Whether a negative year is a leap year goes by its magnitude
unfoldable pub day_of_year_ℤ : ℤ → ℤ → ℤ → ℤ
day_of_year_ℤ y m d = pos (days_before (is_leap (nat_abs y)) m) +ℤ d

-- how many months end before the day n: xs are their lengths, and the first begins after e days
unfoldable pub ended_before : ℕ → List ℕ → ℤ → ℕ
ended_before e [] n = 0
ended_before e (x ∷ xs) n = when le_z n (pos (e + x)) then 0 else suc (ended_before (e + x) xs n)

-- the month of the day n of the year: the first that does not end before it, and 13 past the year's end
unfoldable pub month_of_day : Bool → ℤ → ℕ
month_of_day in_leap n = suc (ended_before 0 (lengths_in in_leap) n)

-- the days since January 1 of 1970, whose Julian day number is 2440588. A day past its month's end runs on
unfoldable pub days_from_civil : ℤ → ℤ → ℤ → ℤ
days_from_civil y m d = day_number_ℤ y (month_of m) 0 +ℤ d -ℤ pos 2440588

-- unfolds all that a day, a month or the days since 1970 are computed by, for worked examples
unfoldable pub civil_computes : ℕ
unfolding days_before day_of_year_ℤ ended_before month_of_day days_from_civil day_number_ℤ before_year back_to leap
civil_computes = 0

-- February has 28 or 29 days, and there are no months 0 and 13
pub month_lengths : (length_of false (pos 2) ≡ 28) × (length_of true (pos 2) ≡ 29) × (length_of true (pos 0) ≡ 0)
    × (length_of true (pos 13) ≡ 0)
month_lengths = (refl, refl, refl, refl)

-- before March there are 59 or 60 days, before a month past December all
pub days_before_computes : (days_before false (pos 3) ≡ 59) × (days_before true (pos 3) ≡ 60) × (days_before false (pos 13) ≡ 365)
    × (days_before false (negsuc 4) ≡ 0)
unfolding civil_computes
days_before_computes = (refl, refl, refl, refl)

-- March 1 of the leap year -4
pub march_first : day_of_year_ℤ (negsuc 3) (pos 3) (pos 1) ≡ pos 61
unfolding civil_computes
march_first = refl

-- day 60 is in March, or in a leap year in February; day 366 of a common year is past the last month.
-- A day before day 1 counts to January
pub months_of_days : (month_of_day false (pos 60) ≡ 3) × (month_of_day true (pos 60) ≡ 2) × (month_of_day false (pos 366) ≡ 13)
    × (month_of_day true (negsuc 6) ≡ 1)
unfolding civil_computes
months_of_days = (refl, refl, refl, refl)

-- January 1 of 1970, the day before, and the day from which Julian days are counted
pub epoch : (days_from_civil (pos 1970) (pos 1) (pos 1) ≡ pos 0) × (days_from_civil (pos 1969) (pos 12) (pos 31) ≡ negsuc 0)
    × (days_from_civil (negsuc 4712) (pos 11) (pos 24) ≡ negsuc 2440587)
unfolding civil_computes
epoch = (refl, refl, refl)

-- February 30 of 2023 is March 2
pub runs_on : days_from_civil (pos 2023) (pos 2) (pos 30) ≡ days_from_civil (pos 2023) (pos 3) (pos 2)
unfolding civil_computes
runs_on = refl
