-- 400 years have 146097 days, before year 0 too. Assumes nothing.
-- `cycles`: k times 400 years more have 146097 k days more.
-- `back`: of k times 400 years before year 0, the days before the year -(n + 1) and those from it on are 146097 k.
use mathlib.Core.Path.{◌≡◌, refl, ap}
use mathlib.Core.Bool.{Bool, true, false}
use Prim.Native.Nat.{ℕ, zero, suc, ◌+◌, ◌-◌, ◌*◌, ◌/◌, ◌%◌, ◌<◌}
use native.Mathlib.Nat.{zero-add}
use native.Mathlib.Omega.{arith}
use borrow.Author.Tests.{eq-eqb, ne_eqb, eqb-true, eqb-false}
use lib.Dec.{eqb}
use Rattle.calendar_gregorian.specs.Gregorian.{multiple, leap, before_year, back_to}
use Rattle.calendar_gregorian.proofs.Closed.{closed, centuries_le}

-- what 400 years add to each quotient
module _ (z : ℕ) where
  fourths : (z + 400) / 4 ≡ z / 4 + 100
  fourths = omega arith

  centuries : (z + 400) / 100 ≡ z / 100 + 4
  centuries = omega arith

  cycle : (z + 400) / 400 ≡ z / 400 + 1
  cycle = omega arith

one_cycle : (y : ℕ) → before_year (y + 400) ≡ before_year y + 146097
one_cycle zero = unfold before_year leap in refl
one_cycle (suc z) =
    let e : before_year (suc z + 400) ≡ before_year (suc (z + 400)) = ap before_year (omega arith) in
    rw (e, closed (z + 400), closed z, fourths z, centuries z, cycle z) (omega (arith, centuries_le z))

pub cycles : (k y : ℕ) → before_year (y + 400 * k) ≡ before_year y + 146097 * k
cycles zero y = let e : before_year (y + 400 * 0) ≡ before_year y = ap before_year (omega arith) in omega arith
cycles (suc k) y =
    let e : before_year (y + 400 * suc k) ≡ before_year (y + 400 * k + 400) = ap before_year (omega arith) in
    omega (arith, e, one_cycle (y + 400 * k), cycles k y)

-- two tests for 0 that pass together
same_test : (a b : ℕ) → (a ≡ 0 → b ≡ 0) → (b ≡ 0 → a ≡ 0) → eqb a 0 ≡ eqb b 0
same_test a b f g = split (eqb b 0) refl
  where
    split : (t : Bool) → eqb b 0 ≡ t → eqb a 0 ≡ t
    split true e = eq-eqb a 0 (g (eqb-true b 0 e))
    split false e = ne_eqb a 0 (λ z. eqb-false b 0 e (f z))

-- of two years whose sum is a multiple of 400, both are leap years or neither
module _ (k a b : ℕ) (e : a + b ≡ 400 * k) where
  by4 : multiple 4 a ≡ multiple 4 b
  by4 = same_test (a % 4) (b % 4) (λ h. omega arith) (λ h. omega arith)

  by100 : multiple 100 a ≡ multiple 100 b
  by100 = same_test (a % 100) (b % 100) (λ h. omega arith) (λ h. omega arith)

  by400 : multiple 400 a ≡ multiple 400 b
  by400 = same_test (a % 400) (b % 400) (λ h. omega arith) (λ h. omega arith)

  mirror : leap a ≡ leap b
  unfolding leap
  mirror = rw (by4, by100, by400)

-- the year -(n + 1) is the year before -n
step : (k n : ℕ) → n < 400 * k → before_year (400 * k - suc n) + (365 + leap (suc n)) ≡ before_year (400 * k - n)
step k n h =
    let e : before_year (400 * k - n) ≡ before_year (suc (400 * k - suc n)) = ap before_year (omega arith) in
    rw (e, ← mirror k (400 * k - suc n) (suc n) (omega arith)) (unfold before_year in refl)

from_zero : (k : ℕ) → before_year (400 * k - 0) ≡ 146097 * k
from_zero k = let e : 400 * k - 0 ≡ 0 + 400 * k = omega arith in rw (e, cycles k 0) (unfold before_year in zero-add (146097 * k))

-- the years -1 to -(n + 1), counted from a start k times 400 years before year 0
pub back : (k n : ℕ) → n < 400 * k → before_year (400 * k - suc n) + back_to n ≡ 146097 * k
unfolding back_to
back k zero h = omega (arith, step k 0 h, from_zero k)
back k (suc n) h = omega (arith, step k (suc n) h, back k n (omega arith))
