-- A date and its day of the year determine each other. Assumes nothing.
-- `ordinal`: the code's day of the year at a date is the calendar's. `from_new_year`: it counts from January 1.
-- `ordinal_range`: it is 1 to 366. `ordinal_month`: the month of that day is the date's.
-- `day_of_month`: less the days before the month it is the day of the month.
use mathlib.Core.Path.{◌≡◌, refl, ◌∙◌, ap}
use mathlib.Core.Bool.{Bool}
use mathlib.Core.List.{List, [], ◌∷◌}
use Prim.Native.Nat.{ℕ, zero, suc, ◌+◌, ◌-◌, ◌≤◌, ◌<◌}
use native.Mathlib.Nat.{lt_of_not-le}
use native.Mathlib.Omega.{arith}
use borrow.Author.Tests.{le-leb, lt-leb}
use lib.IntN.{pos, ◌-ℤ◌}
use lib.ListN.{get_or, length, take, get_or-eq_default}
use Rattle.calendar_gregorian.specs.Gregorian.{is_leap, leap, sum, before_month, day_number, day_of_year, Valid}
use Rattle.calendar_gregorian.specs.Civil.{lengths_in, days_before, day_of_year_ℤ, ended_before, month_of_day}
use Rattle.calendar_gregorian.proofs.Closed.{leap-le}
use Rattle.calendar_gregorian.proofs.Lengths.{sum-suc, sum-take-le}
use Rattle.calendar_gregorian.proofs.Signed.{sub_same}

-- where the first month begins after e days, i months end before the day d of the next
found : (xs : List ℕ) (i e d n : ℕ) → i < length xs → 1 ≤ d → d ≤ get_or xs i 0 → n ≡ e + sum (take i xs) + d → ended_before e xs (pos n) ≡ i
unfolding ended_before
found [] i e d n h from to is = absurd (omega arith)
found (x ∷ xs) zero e d n h from to is = rw (le-leb n (e + x) (omega arith))
found (x ∷ xs) (suc i) e d n h from to is =
    rw (lt-leb n (e + x) (omega arith)) (ap suc (found xs i (e + x) d n (omega arith) from to (omega arith)))

module _ (in_leap : Bool) (m d : ℕ) (month_from : 1 ≤ m) (from : 1 ≤ d) (to : d ≤ get_or (lengths_in in_leap) (m - 1) 0) where
  month_to : m - 1 < 12
  month_to = lt_of_not-le (λ h. omega (arith, get_or-eq_default (lengths_in in_leap) 0 {n = m - 1} h))

  -- a day of a month is found in it
  pub found_in : month_of_day in_leap (pos (days_before in_leap (pos m) + d)) ≡ m
  unfolding month_of_day days_before
  found_in = ap suc (found (lengths_in in_leap) (m - 1) 0 d _ month_to from to (omega arith)) ∙ omega arith

  -- and is one of the year
  pub in_year : days_before in_leap (pos m) + d ≤ sum (lengths_in in_leap)
  unfolding days_before
  in_year = omega (arith, sum-suc (lengths_in in_leap) (m - 1) month_to, sum-take-le (suc (m - 1)) (lengths_in in_leap))

module _ (y m d : ℕ) where
  -- the code's day of the year at a date
  pub ordinal : day_of_year_ℤ (pos y) (pos m) (pos d) ≡ pos (day_of_year y m d)
  unfolding day_of_year_ℤ days_before leap
  ordinal = refl

  -- it counts from January 1
  pub from_new_year : day_of_year y m d ≡ day_number y m d + 1 - day_number y 1 1
  from_new_year = omega arith

  -- less the days before the month it is the day of the month
  pub day_of_month : pos (day_of_year y m d) -ℤ pos (days_before (is_leap y) (pos m)) ≡ pos d
  unfolding days_before leap
  day_of_month = sub_same (day_of_year y m d) (before_month (leap y) m) d 0 (omega arith) ∙ ap pos (omega arith)

module _ {y m d : ℕ} (v : Valid y m d) where
  pub ordinal_range : (1 ≤ day_of_year y m d) × (day_of_year y m d ≤ 366)
  unfolding leap days_before
  ordinal_range = omega (arith, leap-le y, in_year (is_leap y) m d v.month_from v.day_from v.day_to)

  pub ordinal_month : month_of_day (is_leap y) (pos (day_of_year y m d)) ≡ m
  unfolding leap days_before
  ordinal_month = found_in (is_leap y) m d v.month_from v.day_from v.day_to
