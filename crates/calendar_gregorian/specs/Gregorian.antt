-- The proleptic Gregorian calendar, by its own rules. Years are astronomical: year 0 is 1 BC.
-- Year -n is a leap year exactly if n is one.
use Rattle.std.specs.Prelude.{◌≡◌, refl, Bool, true, false, not, ◌&&◌, ◌||◌, List, [], ◌∷◌, ℕ, zero, suc, ◌+◌, ◌-◌, ◌%◌, ◌≤◌, eqb, ℤ, pos, negsuc, ◌-ℤ◌, get_or, take}
use Rattle.base_notation.specs.Choice.{when◌then◌else◌}

-- the year is a multiple of k
abbrev pub multiple : ℕ → ℕ → Bool
multiple k y = eqb (y % k) 0

-- a leap year: each fourth year, but of the centuries only each fourth
abbrev pub is_leap : ℕ → Bool
is_leap y = multiple 4 y && (not (multiple 100 y) || multiple 400 y)

-- the leap days of a year: 1 in a leap year, else 0
unfoldable pub leap : ℕ → ℕ
leap y = when is_leap y then 1 else 0

-- the lengths of the months of a year with l leap days
abbrev pub lengths : ℕ → List ℕ
lengths l = 31 ∷ (28 + l) ∷ 31 ∷ 30 ∷ 31 ∷ 30 ∷ 31 ∷ 31 ∷ 30 ∷ 31 ∷ 30 ∷ 31 ∷ []

-- the length of a month of 1 to 12
abbrev pub month_length : ℕ → ℕ → ℕ
month_length y m = get_or (lengths (leap y)) (m - 1) 0

abbrev pub sum : List ℕ → ℕ
sum [] = 0
sum (x ∷ xs) = x + sum xs

-- the days of a year with l leap days before its month m
abbrev pub before_month : ℕ → ℕ → ℕ
before_month l m = sum (take (m - 1) (lengths l))

-- the days of the years 0 to y - 1
unfoldable pub before_year : ℕ → ℕ
before_year zero = 0
before_year (suc y) = before_year y + (365 + leap y)

-- the Julian day number of a date: January 1 of year 0 has 1721060. A day past its month's end runs on.
abbrev pub day_number : ℕ → ℕ → ℕ → ℕ
day_number y m d = 1721059 + before_year y + before_month (leap y) m + d

-- the days of the years -1 to -(n + 1)
unfoldable pub back_to : ℕ → ℕ
back_to zero = 365 + leap 1
back_to (suc n) = back_to n + (365 + leap (suc (suc n)))

-- the Julian day number for any year: one before year 0 is counted backwards
unfoldable pub day_number_ℤ : ℤ → ℕ → ℕ → ℤ
day_number_ℤ (pos y) m d = pos (day_number y m d)
day_number_ℤ (negsuc n) m d = pos (1721059 + before_month (leap (suc n)) m + d) -ℤ pos (back_to n)

-- a date of the years 1 to 9999
pub record Valid (y m d : ℕ) : Type 0 where
  pub year_from : 1 ≤ y
  pub year_to : y ≤ 9999
  pub month_from : 1 ≤ m
  pub month_to : m ≤ 12
  pub day_from : 1 ≤ d
  pub day_to : d ≤ month_length y m

-- the day of the year, from 1
abbrev pub day_of_year : ℕ → ℕ → ℕ → ℕ
day_of_year y m d = before_month (leap y) m + d

-- 1900 is a common year, 2000 and 2024 are leap years
pub centuries : (is_leap 1900 ≡ false) × (is_leap 2000 ≡ true) × (is_leap 2024 ≡ true)
centuries = (refl, refl, refl)

-- December 31 is day 366 of a leap year
pub last_day : day_of_year 2024 12 31 ≡ 366
unfolding leap
last_day = refl

-- the Julian day number of January 1 of year 1
pub first_day : day_number 1 1 1 ≡ 1721426
unfolding before_year leap
first_day = refl

-- Julian days are counted from November 24 of year -4713
pub day_zero : day_number_ℤ (negsuc 4712) 11 24 ≡ pos 0
unfolding day_number_ℤ back_to before_year leap
day_zero = refl
