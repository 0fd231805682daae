-- The days before a year, in closed form. Assumes nothing.
-- `closed`: the years 0 to y have 366 + 365 y + y / 4 - y / 100 + y / 400 days.
-- `next_year`: a year adds 365 days and its leap day.
-- `before_bound`: y years have at most 366 y days.
-- `leap-le`: a year has at most one leap day.
-- `centuries_le`: there are at most as many centuries as fourth years.
use mathlib.Core.Path.{◌≡◌, refl, ap}
use mathlib.Core.Bool.{Bool, true, false, not, ◌&&◌, ◌||◌, false≢true}
use Prim.Native.Nat.{ℕ, zero, suc, ◌+◌, ◌-◌, ◌*◌, ◌/◌, ◌%◌, ◌≤◌, ◌<◌}
use native.Mathlib.Nat.{mod-lt, div-add-mod'}
use native.Mathlib.Numerals.{add-one}
use native.Mathlib.Omega.{arith}
use borrow.Author.Tests.{ltb-true, ltb-false, eq-eqb, ne_eqb, eqb-true}
use lib.Arith.{digits_div, digits_mod}
use lib.Dec.{ltb, eqb, lit<}
use Rattle.base_notation.specs.Choice.{when◌then◌else◌}
use Rattle.calendar_gregorian.specs.Gregorian.{multiple, is_leap, leap, before_year}

-- 1 where a test passes
abbrev one_if : Bool → ℕ
one_if b = when b then 1 else 0

one_if_le : (b : Bool) → one_if b ≤ 1
one_if_le true = omega arith
one_if_le false = omega arith

pub leap-le : (y : ℕ) → leap y ≤ 1
unfolding leap
leap-le y = one_if_le (is_leap y)

-- a quotient grows by one at each multiple
module _ (k : ℕ) (h : 0 < k) where
  at : (n q r : ℕ) → n ≡ q * k + r → r < k → n / k + one_if (eqb r 0) ≡ q + one_if (multiple k n)
  at n q r e l = rw (e, digits_div q l, digits_mod q l)

  grows : (y : ℕ) → suc y / k ≡ y / k + one_if (multiple k (suc y))
  grows y = by (ltb (suc (y % k)) k) refl
    where
      by : (t : Bool) → ltb (suc (y % k)) k ≡ t → suc y / k ≡ y / k + one_if (multiple k (suc y))
      by true e =
          let below : suc (y % k) < k = ltb-true (suc (y % k)) k e in
          let parts : suc y ≡ y / k * k + suc (y % k) = omega (arith, div-add-mod' y k) in
          omega (arith, rw (ne_eqb (suc (y % k)) 0 (λ z. omega arith)) at (at (suc y) (y / k) (suc (y % k)) parts below))
      by false e =
          let full : suc (y % k) ≡ k = omega (arith, ltb-false (suc (y % k)) k e, mod-lt y h) in
          let parts : suc y ≡ suc (y / k) * k + 0 = omega (arith, div-add-mod' y k) in
          omega (arith, at (suc y) (suc (y / k)) 0 parts h)

-- the leap rule as a sum of tests: p is a fourth year, q a century, r a fourth century
counted : (p q r : Bool) → (q ≡ true → p ≡ true) → (r ≡ true → q ≡ true) → one_if p + one_if r ≡ one_if q + one_if (p && (not q || r))
counted true true true f g = refl
counted true true false f g = refl
counted true false true f g = absurd (false≢true (g refl))
counted true false false f g = refl
counted false true r f g = absurd (false≢true (f refl))
counted false false true f g = absurd (false≢true (g refl))
counted false false false f g = refl

module _ (y : ℕ) where
  fourth : multiple 100 y ≡ true → multiple 4 y ≡ true
  fourth e = let no_rest = eqb-true (y % 100) 0 e in eq-eqb (y % 4) 0 (omega arith)

  century : multiple 400 y ≡ true → multiple 100 y ≡ true
  century e = let no_rest = eqb-true (y % 400) 0 e in eq-eqb (y % 100) 0 (omega arith)

  leap_is : one_if (multiple 4 y) + one_if (multiple 400 y) ≡ one_if (multiple 100 y) + leap y
  unfolding leap
  leap_is = counted (multiple 4 y) (multiple 100 y) (multiple 400 y) fourth century

  pub centuries_le : y / 100 ≤ y / 4
  centuries_le = omega arith

pub next_year : (y : ℕ) → before_year (y + 1) ≡ before_year y + (365 + leap y)
unfolding before_year
next_year y = ap before_year (add-one y)

-- one more year, with a variable for each quotient: `omega` fails on several quotients at once
next : (y n a b c p q r l : ℕ) → b ≤ a → q ≤ 1 → n ≡ 366 + 365 * y + a - b + c → p + r ≡ q + l
    → n + (365 + l) ≡ 366 + 365 * suc y + (a + p) - (b + q) + (c + r)
next y n a b c p q r l h k e f = omega arith

pub closed : (y : ℕ) → before_year (suc y) ≡ 366 + 365 * y + y / 4 - y / 100 + y / 400
closed zero = unfold before_year leap in refl
closed (suc y) =
    rw (← add-one (suc y), next_year (suc y), grows 4 (lit< tt) y, grows 100 (lit< tt) y, grows 400 (lit< tt) y)
    (next y (before_year (suc y)) _ _ _ _ _ _ (leap (suc y)) (centuries_le y) (one_if_le (multiple 100 (suc y))) (closed y) (leap_is (suc y)))

pub before_bound : (y : ℕ) → before_year y ≤ 366 * y
unfolding before_year
before_bound zero = omega arith
before_bound (suc y) = omega (arith, before_bound y, leap-le y)
