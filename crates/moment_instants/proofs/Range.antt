-- Numbers tested against the ends of the 64-bit range. Assumes nothing.
-- `first`, `last`: the numbers next to the ends. `finite_is`: a number that is past neither of them is `finite`.
-- `between`: a number that is past neither of them is an instant.
-- `sub_small`: a bound for the difference of two naturals.
use Rattle.std.specs.Prelude.{Err, Ok}
use mathlib.Core.Path.{◌≡◌, refl, ◌∙◌, sym}
use mathlib.Core.Bool.{Bool, true, false, not, cond, ◌&&◌, and-false, false≢true}
use Prim.Native.Nat.{ℕ, zero, suc, ◌+◌, ◌-◌, ◌≤◌, ◌<◌, ◌^◌}
use native.Mathlib.Omega.{arith}
use borrow.Author.Tests.{lt-ltb, le-ltb, ltb-true, ltb-false}
use lib.Dec.{ltb}
use lib.IntN.{ℤ, pos, negsuc, sub_ℕ, ◌+ℤ◌, ◌-ℤ◌}
use lib.Signed.{lt_z, mag}
use mir.Syntax.{w32, w64}
use mir.Val.{SFits}
use Rattle.base_notation.proofs.Magnitudes.{sub_is}
use Rattle.moment_instants.specs.Instant.{fits64, finite, within}
use Rattle.moment_instants.specs.declared.epoch.Undated.TheVariants.{InstantRange}
use Rattle.moment_instants.proofs.Order.{below_sum, sum_below}

-- the numbers next to the ends
abbrev pub first : ℤ
first = negsuc 9223372036854775806

abbrev pub last : ℤ
last = pos 9223372036854775806

-- the difference of two naturals of which neither is H larger than the other
pub sub_small : (a b H : ℕ) → a < H + b → b ≤ H + a → mag (sub_ℕ a b) < H
sub_small a b H f g = by (ltb a b) refl
  where
    by : (t : Bool) → ltb a b ≡ t → mag (cond t (negsuc (b - suc a)) (pos (a - b))) < H
    by true e = omega (arith, ltb-true a b e)
    by false e = omega arith

-- neither end of the range, by the numbers next to them
pub finite_is : (z : ℤ) → finite z ≡ (not (lt_z last z) && not (lt_z z first))
finite_is (pos n) = by (ltb 9223372036854775806 n) refl
  where
    by : (t : Bool) → ltb 9223372036854775806 n ≡ t → finite (pos n) ≡ (not t && true)
    by true e = let bound = ltb-true 9223372036854775806 n e in rw (le-ltb (n + 1) (2 ^ 63) (omega arith))
    by false e =
        let bound = ltb-false 9223372036854775806 n e in
        rw (lt-ltb (n + 1) (2 ^ 63) (omega arith), lt-ltb (mag (sub_ℕ n 1)) (2 ^ 63) (sub_small n 1 (2 ^ 63) (omega arith) (omega arith)))
finite_is (negsuc n) = by (ltb 9223372036854775806 n) refl
  where
    by : (t : Bool) → ltb 9223372036854775806 n ≡ t → finite (negsuc n) ≡ not t
    by true e = let bound = ltb-true 9223372036854775806 n e in rw (le-ltb (suc (n + 0)) (2 ^ 63) (omega arith)) (and-false (fits64 (negsuc n +ℤ pos 1)))
    by false e =
        let bound = ltb-false 9223372036854775806 n e in
        rw (lt-ltb (mag (sub_ℕ 1 (suc n))) (2 ^ 63) (sub_small 1 (suc n) (2 ^ 63) (omega arith) (omega arith)), lt-ltb (suc (n + 0)) (2 ^ 63) (omega arith))

-- a number between them is an instant
module _ (z : ℤ) where
  pub between : lt_z last z ≡ false → lt_z z first ≡ false → Ok z ≡ within z
  between h k = rw (finite_is z, h, k)
