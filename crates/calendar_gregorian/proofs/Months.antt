-- Months as the code counts them. Assumes nothing.
-- `length_at`: from month 1 on the row's entry is its length.
-- `month_length_lem`: the length that the code reads is the calendar's.
-- `of_twelve`: a month that has a length is one of the twelve. `valid`: a day that its month has makes a date.
use mathlib.Core.Path.{◌≡◌, refl, sym}
use mathlib.Core.Bool.{Bool, false, false≢true}
use Prim.Native.Nat.{ℕ, zero, suc, ◌-◌, ◌≤◌}
use native.Mathlib.Nat.{lt_of_not-le}
use native.Mathlib.Omega.{arith}
use borrow.Author.Tests.{ltb-false}
use lib.IntN.{ℤ, pos, negsuc, nat_abs}
use lib.ListN.{get_or, get_or-eq_default}
use lib.Signed.{lt_z}
use mir.Facts.{to_z-of_z}
use mir.Syntax.{w32}
use mir.Val.{SFits, to_z, of_z}
use Rattle.calendar_gregorian.specs.Gregorian.{is_leap, leap, month_length, Valid}
use Rattle.calendar_gregorian.specs.Civil.{lengths_in, length_of, month_of}

-- a month that is not below 1
pub record From (z : ℤ) (n : ℕ) : Type 0 where
  pub from : 1 ≤ n
  pub is : month_of z ≡ n

not_low : (z : ℤ) → lt_z z (pos 1) ≡ false → From z (nat_abs z)
not_low (pos n) e = record { from = ltb-false n 1 e; is = refl }
not_low (negsuc n) e = absurd (false≢true (sym e))

-- from 1 on the length is the row's entry
row_at : (in_leap : Bool) (z : ℤ) {n : ℕ} → From z n → get_or (lengths_in in_leap) (n - 1) 0 ≡ length_of in_leap z
row_at in_leap (pos zero) r = absurd (omega arith)
row_at in_leap (pos (suc i)) {n} r = let same : n - 1 ≡ i = omega arith in rw same
row_at in_leap (negsuc i) r = absurd (omega arith)

-- the length of a month that is not below 1, from the row
pub length_at : {z : ℤ} → SFits w32 z → lt_z (to_z w32 (of_z w32 z)) (pos 1) ≡ false → (in_leap : Bool)
    → get_or (lengths_in in_leap) (nat_abs (to_z w32 (of_z w32 z)) - 1) 0 ≡ length_of in_leap z
length_at {z} f e in_leap =
    let number : From z (nat_abs (to_z w32 (of_z w32 z))) = rw (to_z-of_z f) (not_low z (rw (to_z-of_z f) at e)) in
    row_at in_leap z number

-- a month that has a length is one of the twelve
pub of_twelve : (in_leap : Bool) (z : ℤ) → 1 ≤ length_of in_leap z → (1 ≤ month_of z) × (month_of z ≤ 12)
of_twelve in_leap (pos zero) h = absurd (omega arith)
of_twelve in_leap (pos (suc i)) h =
    (omega arith, lt_of_not-le (λ l. omega (arith, get_or-eq_default (lengths_in in_leap) 0 {n = i} l)))
of_twelve in_leap (negsuc n) h = absurd (omega arith)

-- the length that the code reads is the calendar's
pub month_length_lem : (y m : ℕ) → 1 ≤ m → length_of (is_leap y) (pos m) ≡ month_length y m
unfolding leap
month_length_lem y m h = sym (row_at (is_leap y) (pos m) {n = m} (record { from = h; is = refl }))

-- a date whose day its month has
pub valid : (y m d : ℕ) → 1 ≤ y → y ≤ 9999 → 1 ≤ d → d ≤ length_of (is_leap y) (pos m) → Valid y m d
valid y m d year_from year_to day_from h =
    let twelve = of_twelve (is_leap y) (pos m) (omega arith) in
    record {
      year_from = year_from;
      year_to = year_to;
      month_from = twelve.0;
      month_to = twelve.1;
      day_from = day_from;
      day_to = rw (month_length_lem y m twelve.0) at h;
    }
