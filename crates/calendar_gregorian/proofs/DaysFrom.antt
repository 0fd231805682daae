-- The days since 1970-01-01, from a year shifted by whole cycles of 400 years. Assumes nothing.
-- `civil`: for a month and a day that are not negative they are the day number, less that of 1970-01-01.
-- `from_start`: they are the days before the year from a fixed start, less those to 1970, and the day of the year.
-- `days_from_mag`: they have at most 43 bits. `since_start_le`: the days before the year have at most 42.
-- `day_of_year_mag`: a day of the year is at most 367 above its day. `day_of_year_fits`: so it fits 64 bits.
-- `sum_is`: the code's sum is these days.
use mathlib.Core.Path.{◌≡◌, ◌∙◌, ap, sym}
use mathlib.Core.Bool.{Bool, true, false}
use Prim.Native.Nat.{ℕ, suc, ◌+◌, ◌-◌, ◌≤◌, ◌<◌, ◌^◌}
use native.Mathlib.Nat.{add-zero}
use native.Mathlib.Omega.{arith}
use borrow.Author.Tests.{le-ltb}
use lib.IntN.{ℤ, pos, negsuc, nat_abs, ◌+ℤ◌, ◌-ℤ◌, +ℤ_assoc}
use lib.Signed.{mag}
use mir.Syntax.{w32, w64}
use mir.Facts.{to_z_pos, to_z-of_z}
use mir.Val.{SFits, to_z, of_z}
use Rattle.calendar_gregorian.specs.Gregorian.{is_leap, leap, lengths, before_month, before_year, back_to, day_number_ℤ}
use Rattle.calendar_gregorian.specs.Civil.{month_of, days_before, day_of_year_ℤ, days_from_civil}
use Rattle.calendar_gregorian.proofs.Closed.{before_bound}
use Rattle.calendar_gregorian.proofs.Cycles.{cycles, back}
use Rattle.calendar_gregorian.proofs.Lengths.{sum-take-le}
use Rattle.calendar_gregorian.proofs.Shift.{start_small}
use Rattle.base_notation.proofs.Magnitudes.{add_mag, sub_mag}
use Rattle.calendar_gregorian.proofs.Signed.{sub_same, sub_sub, swap}

-- a year has at most 366 days before a month
pub days_before-le : (in_leap : Bool) (m : ℤ) → days_before in_leap m ≤ 366
unfolding days_before
days_before-le true m = sum-take-le (month_of m - 1) (lengths 1)
days_before-le false m = omega (arith, sum-take-le (month_of m - 1) (lengths 0))

pub day_of_year_mag : (y m d : ℤ) → mag (day_of_year_ℤ y m d) ≤ 367 + mag d
unfolding day_of_year_ℤ
day_of_year_mag y m d =
    omega (arith, add_mag (pos (days_before (is_leap (nat_abs y)) m)) d, days_before-le (is_leap (nat_abs y)) m)

pub day_of_year_fits : (y m : ℤ) {d : ℤ} → SFits w32 d → SFits w64 (day_of_year_ℤ y m d)
day_of_year_fits y m {d} f = omega (arith, day_of_year_mag y m d)

-- the days before a year, from the start of the year -2147484000
abbrev pub since_start : ℤ → ℕ
since_start y = before_year (nat_abs (y +ℤ pos 2147484000))

pub since_start_le : {y : ℤ} → SFits w32 y → since_start y < 2 ^ 42
since_start_le {y} f = omega (arith, before_bound (nat_abs (y +ℤ pos 2147484000)), start_small y f)

-- the days from that start to the start of year 0, from there to the end of 1969, and 1
abbrev to1970 : ℕ
to1970 = 784352424870 + 719528 + 1

-- the terms of the code's sum, in the order of the definition's
joined : (b c p q n : ℕ) (d : ℤ) → b + n + (q + 2440588) ≡ p + c → pos b -ℤ pos c +ℤ (pos n +ℤ d) ≡ pos p -ℤ pos q +ℤ d -ℤ pos 2440588
joined b c p q n d e =
    sym (+ℤ_assoc (pos b -ℤ pos c) (pos n) d)
    ∙ ap (λ (z : ℤ). z +ℤ d) (sym (swap (pos b) (pos n) (pos c)) ∙ sub_same (b + n) c p (q + 2440588) e ∙ sym (sub_sub (pos p) q 2440588))
    ∙ sym (swap (pos p -ℤ pos q) d (pos 2440588))

from_start : (y m d : ℤ) → SFits w32 y → pos (since_start y) -ℤ pos to1970 +ℤ day_of_year_ℤ y m d ≡ days_from_civil y m d
unfolding day_of_year_ℤ days_before days_from_civil day_number_ℤ leap
from_start (pos y) m d f =
    let n = before_month (leap y) (month_of m) in
    joined (before_year (y + 2147484000)) to1970 (1721059 + before_year y + n) 0 n d (omega (arith, cycles 5368710 y))
from_start (negsuc k) m d f =
    let n = before_month (leap (suc k)) (month_of m) in
    rw (le-ltb 2147484000 (suc k) (omega arith))
    (joined (before_year (2147484000 - suc k)) to1970 (1721059 + n + 0) (back_to k) n d (omega (arith, back 5368710 k (omega arith))))

-- all fit 64 bits
module _ {y : ℤ} (f : SFits w32 y) where
  start_back : to_z w64 (since_start y) ≡ pos (since_start y)
  start_back = to_z_pos w64 {n = since_start y} (omega (arith, since_start_le f))

  less_fits : SFits w64 (pos (since_start y) -ℤ pos to1970)
  less_fits = omega (arith, sub_mag (since_start y) to1970, since_start_le f)

  pub days_from_mag : (m : ℤ) {d : ℤ} → SFits w32 d → mag (days_from_civil y m d) < 2 ^ 43
  days_from_mag m {d} g =
      rw (← from_start y m d f)
      (omega (
        arith,
        add_mag (pos (since_start y) -ℤ pos to1970) (day_of_year_ℤ y m d),
        sub_mag (since_start y) to1970,
        since_start_le f,
        day_of_year_mag y m d,
      ))

-- the code's sum, of the days b before the year and the day o of the year
module _ {y : ℤ} (f : SFits w32 y) {b : ℕ} (b_is : b ≡ since_start y) where
  less : to_z w64 b -ℤ pos to1970 ≡ pos (since_start y) -ℤ pos to1970
  less = rw (b_is, start_back f)

  back_fits : SFits w64 (to_z w64 b -ℤ pos to1970)
  back_fits = rw less (less_fits f)

  module _ (m : ℤ) {d : ℤ} (g : SFits w32 d) {o : ℤ} (o_is : o ≡ day_of_year_ℤ y m d) where
    sum : to_z w64 (of_z w64 (to_z w64 b -ℤ pos to1970)) +ℤ to_z w64 (of_z w64 o) ≡ days_from_civil y m d
    sum = rw (to_z-of_z back_fits, less, o_is, to_z-of_z (day_of_year_fits y m g)) (from_start y m d f)

    fits : SFits w64 (days_from_civil y m d)
    fits = omega (arith, days_from_mag f m g)

    pub sum_is : to_z w64 (of_z w64 (to_z w64 (of_z w64 (to_z w64 b -ℤ pos to1970)) +ℤ to_z w64 (of_z w64 o))) ≡ days_from_civil y m d
    sum_is = rw sum (to_z-of_z fits)

-- at a month and a day that are not negative: the calendar's day number, less that of 1970-01-01
pub civil : (y : ℤ) (m d : ℕ) → days_from_civil y (pos m) (pos d) ≡ day_number_ℤ y m d -ℤ pos 2440588
unfolding days_from_civil day_number_ℤ
civil (pos y) m d = simp add-zero
civil (negsuc n) m d =
    simp add-zero (ap (λ (z : ℤ). z -ℤ pos 2440588) (sym (swap (pos (1721059 + before_month (leap (suc n)) m)) (pos d) (pos (back_to n)))))
