-- `j2date` gives each date of the years 1 to 9999 back from its day number. Assumes nothing.
-- `j2date_is`: the date of a date's day number is the date.
-- `answered`: each day number from 1721426 to 5373484 has such a date, and `date2j` gives the day number back.
-- `one_date`: two dates with one day number are the same.
use Rattle.std.proofs.Common.{◌≡◌, ℕ, ◌+◌, ◌-◌, ◌*◌, ◌/◌, ◌%◌, ◌<◌, ◌≤◌, Bool, true, false, not, ◌&&◌, ◌||◌, ltb, pos, nat_abs, sym, refl, ap, ◌∙◌, subst, arith, ltb-false, ltb-true, eqb-true}
use borrow.Author.Tests.{eqb-false}
use Rattle.base_notation.specs.Choice.{when◌then◌else◌}
use Rattle.base_wrapping.proofs.Small.{sub_pos}
use Rattle.calendar_gregorian.specs.Gregorian.{multiple, leap, month_length, day_number, Valid}
use Rattle.calendar_gregorian.proofs.Closed.{leap-le}
use Rattle.calendar_gregorian.proofs.Dates.{Dated, dated, valid as in_range, each}
use Rattle.calendar_julian.specs.declared.Date.{Date}
use Rattle.calendar_julian.specs.ToDay.{date2j}
use Rattle.calendar_julian.specs.ToDate.{shifted, with_skipped, date, j2date}
use Rattle.calendar_julian.proofs.DayNumber.{base, early_days, late_days, date2j_valid}
use Rattle.calendar_julian.proofs.Cycles.{Found, found_early, found_late}

-- what a leap day asks of the year from March that it ends
record Leap (y : ℕ) : Type 0 where
  fourth : leap y ≤ (y + 4799) % 100 % 4 / 3
  century : 365 * ((y + 4799) % 100) + (y + 4799) % 100 / 4 + (487 + leap y) ≤ 36646 + (y + 4799) / 100 % 4 / 3

-- `Leap` with a variable for each quotient: `omega` fails on several quotients at once
common : (f x : ℕ) → f ≤ 99 → 365 * f + f / 4 + (487 + 0) ≤ 36646 + x
common f x h = omega arith

not_century : (f x : ℕ) → f ≤ 98 → 365 * f + f / 4 + (487 + 1) ≤ 36646 + x
not_century f x h = omega arith

module _ (y : ℕ) where
  -- what a remainder of the year says of the year from March before it
  four_at : y % 4 ≡ 0 → (y + 4799) % 100 % 4 ≡ 3
  four_at h = omega arith

  not_last : (y % 100 ≡ 0 → ⊥) → (y + 4799) % 100 ≤ 98
  not_last h = omega arith

  last_at : y % 400 ≡ 0 → (y + 4799) / 100 % 4 ≡ 3
  last_at h = omega arith

  below : (y + 4799) % 100 ≤ 99
  below = omega arith

  -- by the three tests of the leap rule
  no_leap : leap y ≡ 0 → Leap y
  no_leap e = record { fourth = rw e (omega arith); century = rw e (common _ _ below) }

  leap_by : (p q r : Bool) → multiple 4 y ≡ p → multiple 100 y ≡ q → multiple 400 y ≡ r
      → leap y ≡ (when p && (not q || r) then 1 else 0) → Leap y
  leap_by false q r a b c e = no_leap e
  leap_by true false r a b c e =
      record {
        fourth = rw (e, four_at (eqb-true (y % 4) 0 a)) (omega arith);
        century = rw e (not_century _ _ (not_last (eqb-false (y % 100) 0 b)));
      }
  leap_by true true true a b c e =
      record {
        fourth = rw (e, four_at (eqb-true (y % 4) 0 a)) (omega arith);
        century = rw (e, last_at (eqb-true (y % 400) 0 c)) (omega (arith, below));
      }
  leap_by true true false a b c e = no_leap e

  leap_at : Leap y
  unfolding leap
  leap_at = leap_by _ _ _ refl refl refl refl

-- the days of the month m, which is the month n from March: the first is not before it, the last not past it
abbrev MonthAt : ℕ → ℕ → ℕ → Type 0
MonthAt y m n = (n * 65536 ≤ (7834 * n / 256 + 1) * 2141) × ((7834 * n / 256 + month_length y m) * 2141 < (n + 1) * 65536)

module _ (y : ℕ) where
  -- January and February, with their days from March
  early_months : (m : ℕ) → 1 ≤ m → m ≤ 2
      → MonthAt y m (m + 13) × ((428 ≤ 7834 * (m + 13) / 256) × (7834 * (m + 13) / 256 + month_length y m ≤ 487 + leap y))
  early_months = each _ 1 1 (omega (arith, leap-le y))

  -- March to December
  late_months : (m : ℕ) → 3 ≤ m → m ≤ 12 → MonthAt y m (m + 1)
  late_months = each _ 3 9 (omega arith)

  late_range : (m : ℕ) → 3 ≤ m → m ≤ 12 → (122 ≤ 7834 * (m + 1) / 256) × (7834 * (m + 1) / 256 + month_length y m ≤ 428)
  late_range = each _ 3 9 (omega arith)

-- a day that is not past the leap day is not past where four years and a century end
fourth_fits : (t l x : ℕ) → t ≤ 487 + l → l ≤ x → t ≤ 487 + x
fourth_fits t l x h k = omega arith

century_fits : (a t l x : ℕ) → t ≤ 487 + l → a + (487 + l) ≤ x → a + t ≤ x
century_fits a t l x h k = omega arith

-- the date, from the year and the day that are found
date_is : (j y m n d : ℕ) → 1 ≤ d → d ≤ month_length y m → MonthAt y m n → (n + 10) % 12 + 1 ≡ m
    → Found (with_skipped (shifted (pos j))) (y + 4800) (7834 * n / 256 + d) → j2date (pos j) ≡ date (pos y) (pos m) (pos d)
unfolding j2date
date_is j y m n d h k i e f =
    let year_back : y + 4800 - 4800 ≡ y = omega arith in
    let day_back : 7834 * n / 256 + d - 7834 * n / 256 ≡ d = omega arith in
    let month_back : (7834 * n / 256 + d) * 2141 / 65536 ≡ n = omega arith in
    rw (f.year, f.day, month_back, e, day_back, sub_pos (y + 4800) 4800 (omega arith), year_back)

module _ {y m d : ℕ} (v : Valid y m d) where
  pub j2date_is : j2date (pos (day_number y m d)) ≡ date (pos y) (pos m) (pos d)
  j2date_is = by (ltb 2 m) refl
    where
      by : (b : Bool) → ltb 2 m ≡ b → j2date (pos (day_number y m d)) ≡ date (pos y) (pos m) (pos d)
      by true e =
          let from_march : 3 ≤ m = ltb-true 2 m e in
          let range = late_range y m from_march v.month_to in
          let number : base (y + 4800) + (7834 * (m + 1) / 256 + d) ≡ day_number y m d = omega (arith, late_days y d m from_march v.month_to) in
          date_is (day_number y m d) y m (m + 1) d v.day_from v.day_to (late_months y m from_march v.month_to) (omega arith)
          (rw number at (found_late (y + 4800) (7834 * (m + 1) / 256 + d) (omega arith) (omega arith) (omega arith) (omega arith) (omega arith)))
      by false e =
          let to_february : m ≤ 2 = ltb-false 2 m e in
          let range = early_months y m v.month_from to_february in
          let number : base (y + 4799) + (7834 * (m + 13) / 256 + d) ≡ day_number y m d = omega (arith, early_days y d m v.month_from to_february) in
          let next_year : y + 4799 + 1 ≡ y + 4800 = omega arith in
          let to_leap_day : 7834 * (m + 13) / 256 + d ≤ 487 + leap y = omega arith in
          date_is (day_number y m d) y m (m + 13) d v.day_from v.day_to range.0 (omega arith)
          (rw (number, next_year) at (found_early (y + 4799) (7834 * (m + 13) / 256 + d) (omega arith) (omega arith) (omega arith) (omega (arith, leap-le y))
          (omega arith) (fourth_fits _ _ _ to_leap_day (leap_at y).fourth) (century_fits _ _ _ _ to_leap_day (leap_at y).century)))

-- a day number has a date of the calendar, from which `date2j` gives the day number back
pub record Answered (j : ℕ) : Type 0 where
  pub y : ℕ
  pub m : ℕ
  pub d : ℕ
  pub valid : Valid y m d
  pub number : day_number y m d ≡ j
  pub is : j2date (pos j) ≡ date (pos y) (pos m) (pos d)
  pub back : date2j (pos y) (pos m) (pos d) ≡ pos j

pub answered : (j : ℕ) → 1721426 ≤ j → j ≤ 5373484 → Answered j
answered j h k =
    let found : Dated j = subst Dated (omega arith) (dated (j - 1721426)) in
    let in_years = in_range k found in
    record {
      y = found.y;
      m = found.m;
      d = found.d;
      valid = in_years;
      number = found.is;
      is = rw found.is at (j2date_is in_years);
      back = rw found.is at (date2j_valid in_years);
    }

-- two dates with one day number are the same
pub one_date : {y m d y' m' d' : ℕ} → Valid y m d → Valid y' m' d' → day_number y m d ≡ day_number y' m' d'
    → (y ≡ y') × ((m ≡ m') × (d ≡ d'))
one_date v w e =
    let same = sym (j2date_is v) ∙ ap (λ (j : ℕ). j2date (pos j)) e ∙ j2date_is w in
    (ap (λ (t : Date). nat_abs t.year) same, (ap (λ (t : Date). nat_abs t.month) same, ap (λ (t : Date). nat_abs t.day) same))
