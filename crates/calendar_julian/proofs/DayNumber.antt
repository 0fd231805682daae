-- `date2j` is the day number of the proleptic Gregorian calendar. Assumes nothing.
-- `date2j_valid`: at every date of the years 1 to 9999.
-- `date2j_is`: to the year 1000000, and also for a day past its month's end.
-- `base`: the days of the years from March, where nothing wraps.
-- `early_days`, `late_days`: with the days of the months it is the day number, to February and from March on.
use Rattle.std.proofs.Common.{◌≡◌, ℕ, zero, suc, ◌+◌, ◌-◌, ◌*◌, ◌/◌, ◌≤◌, Bool, true, false, ltb, pos, sym, refl, ap, ◌∙◌, add-one, arith, ltb-false, ltb-true}
use Rattle.base_notation.specs.Choice.{when◌then◌else◌}
use Rattle.base_wrapping.specs.Wrap.{◌⊕◌}
use Rattle.base_wrapping.proofs.Small.{wrap_pos, sub_pos}
use Rattle.calendar_gregorian.specs.Gregorian.{leap, before_year, day_number, Valid}
use Rattle.calendar_gregorian.proofs.Closed.{centuries_le, closed, next_year}
use Rattle.calendar_gregorian.proofs.Dates.{each, length_range}
use Rattle.calendar_julian.specs.ToDay.{from_march, date2j}

-- the days of the years from March, where nothing wraps
unfoldable pub base : ℕ → ℕ
base y = y * 365 - 32167 + y / 4 - y / 100 + y / 100 / 4

-- nothing wraps up to the year 1000000
module _ (y m d : ℕ) (from : 4799 ≤ y) (to : y ≤ 1004800) (month : m ≤ 15) (day : d ≤ 1000000) where
  days_is : from_march (pos y) (pos m) (pos d) ≡ pos (base y + 7834 * m / 256 + d)
  unfolding from_march base
  days_is =
      let centuries = centuries_le y in
      let fourths : y / 4 ≤ 251200 = omega arith in
      let fourth_centuries : y / 100 / 4 ≤ 251200 = omega arith in
      let month_days : 7834 * m / 256 ≤ 460 = omega arith in
      rw (
        wrap_pos (y * 365) (omega arith),
        sub_pos (y * 365) 32167 (omega arith),
        wrap_pos (y * 365 - 32167) (omega arith),
        wrap_pos (y * 365 - 32167 + y / 4) (omega arith),
        sub_pos (y * 365 - 32167 + y / 4) (y / 100) (omega arith),
        wrap_pos (y * 365 - 32167 + y / 4 - y / 100) (omega arith),
        wrap_pos (y * 365 - 32167 + y / 4 - y / 100 + y / 100 / 4) (omega arith),
        wrap_pos (7834 * m) (omega arith),
        wrap_pos (y * 365 - 32167 + y / 4 - y / 100 + y / 100 / 4 + 7834 * m / 256) (omega arith),
        wrap_pos (y * 365 - 32167 + y / 4 - y / 100 + y / 100 / 4 + 7834 * m / 256 + d) (omega arith),
      )

-- what 4800 years add to each quotient
module _ (z : ℕ) where
  quarter : (z + 4800) / 4 ≡ z / 4 + 1200
  quarter = omega arith

  hundredth : (z + 4800) / 100 ≡ z / 100 + 48
  hundredth = omega arith

  fourth : (z / 100 + 48) / 4 ≡ z / 400 + 12
  fourth = omega arith

-- a variable for each quotient: `omega` fails on several quotients at once
sum : (z n a b c : ℕ) → b ≤ a → n ≡ 366 + 365 * z + a - b + c → (z + 4800) * 365 - 32167 + (a + 1200) - (b + 48) + (c + 12) ≡ 1720631 + n
sum z n a b c h e = omega arith

base_next : (z : ℕ) → base (z + 4800) ≡ 1720631 + before_year (suc z)
unfolding base
base_next z = rw (quarter z, hundredth z, fourth z) (sum z (before_year (suc z)) (z / 4) (z / 100) (z / 400) (centuries_le z) (closed z))

-- the year from March that January and February belong to
pub base_early : (y : ℕ) → base (y + 4799) ≡ 1720631 + before_year y
base_early zero = unfold base before_year in refl
base_early (suc z) = ap base (omega arith) ∙ base_next z

-- and that of the other months
pub base_late : (y : ℕ) → base (y + 4800) ≡ 1720996 + before_year y + leap y
base_late y = base_next y ∙ ap (λ (n : ℕ). 1720631 + before_year n) (sym (add-one y)) ∙ omega (arith, next_year y)

module _ (y d : ℕ) where
  pub early_days : (m : ℕ) → 1 ≤ m → m ≤ 2 → base (y + 4799) + 7834 * (m + 13) / 256 + d ≡ day_number y m d
  early_days = each (λ m. base (y + 4799) + 7834 * (m + 13) / 256 + d ≡ day_number y m d) 1 1 (omega (arith, base_early y))

  pub late_days : (m : ℕ) → 3 ≤ m → m ≤ 12 → base (y + 4800) + 7834 * (m + 1) / 256 + d ≡ day_number y m d
  late_days = each (λ m. base (y + 4800) + 7834 * (m + 1) / 256 + d ≡ day_number y m d) 3 9 (omega (arith, base_late y))

-- to the year 1000000, and also for a day past its month's end
module _ (y m d : ℕ) (year : y ≤ 1000000) (from : 1 ≤ m) (to : m ≤ 12) (day : d ≤ 1000000) where
  pub date2j_is : date2j (pos y) (pos m) (pos d) ≡ pos (day_number y m d)
  unfolding date2j
  date2j_is = by (ltb 2 m) refl
    where
      by : (t : Bool) → ltb 2 m ≡ t
          → (when t then from_march (pos y ⊕ pos 4800) (pos m ⊕ pos 1) (pos d) else from_march (pos y ⊕ pos 4799) (pos m ⊕ pos 13) (pos d)) ≡ pos (day_number y m d)
      by true e =
          rw (wrap_pos (y + 4800) (omega arith), wrap_pos (m + 1) (omega arith))
          (days_is (y + 4800) (m + 1) d (omega arith) (omega arith) (omega arith) day ∙ ap pos (late_days y d m (ltb-true 2 m e) to))
      by false e =
          let to_two = ltb-false 2 m e in
          rw (wrap_pos (y + 4799) (omega arith), wrap_pos (m + 13) (omega arith))
          (days_is (y + 4799) (m + 13) d (omega arith) (omega arith) (omega arith) day ∙ ap pos (early_days y d m from to_two))

pub date2j_valid : {y m d : ℕ} → Valid y m d → date2j (pos y) (pos m) (pos d) ≡ pos (day_number y m d)
date2j_valid {y} {m} {d} v =
    date2j_is y m d (omega arith) v.month_from v.month_to (omega (arith, length_range y m v.month_from v.month_to))
