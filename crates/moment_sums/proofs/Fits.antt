-- What fits an i32. Assumes nothing.
-- `rem_fits`: a remainder of a number that fits; `neg_rem_fits`: a remainder with the other sign.
-- `mixed_fits`: the difference of two naturals below 2 ^ 31.
-- `back`: a number below 2 ^ 31 in size reads back from its bits as itself.
-- `wrap_twice`: what was wrapped to 32 bits wraps to itself.
use mathlib.Core.Path.{◌≡◌, refl, ◌∙◌, ap}
use mathlib.Core.Bool.{Bool, true, false, cond}
use Prim.Native.Nat.{ℕ, zero, suc, ◌-◌, ◌%◌, ◌≤◌, ◌<◌, ◌^◌}
use native.Mathlib.Nat.{mod-lt}
use native.Mathlib.Omega.{arith}
use borrow.Author.Rules.{sfits_of}
use borrow.Author.Tests.{ltb-true}
use lib.Dec.{ltb}
use lib.IntN.{ℤ, pos, negsuc, neg_ℤ, sub_ℕ}
use lib.Signed.{mag, rem_z, mag_rem}
use mir.Facts.{to_z-of_z}
use mir.Syntax.{w32}
use mir.Val.{SFits, to_z, of_z}
use Rattle.base_notation.proofs.Magnitudes.{neg_mag_le}
use Rattle.base_wrapping.specs.Wrap.{low32, wrap32}
use Rattle.base_wrapping.proofs.Fits.{read, wrap_fits}

pub rem_fits : (z : ℤ) (k : ℕ) → SFits w32 z → SFits w32 (rem_z z (pos k))
rem_fits z k f = omega (arith, mag_rem z (pos k))

-- a difference of naturals is no larger than the larger of them
pub mixed_fits : (a b : ℕ) → a < 2 ^ 31 → b < 2 ^ 31 → SFits w32 (sub_ℕ a (suc b))
mixed_fits a b h l = by (ltb a (suc b)) refl
  where
    by : (t : Bool) → ltb a (suc b) ≡ t → SFits w32 (cond t (negsuc (suc b - suc a)) (pos (a - suc b)))
    by true e = omega (arith, ltb-true a (suc b) e)
    by false e = omega arith

-- a number with the other sign, and a remainder with it
neg_fits : (z : ℤ) → mag z < 2147483647 → SFits w32 (neg_ℤ z)
neg_fits (pos zero) h = omega arith
neg_fits (pos (suc n)) h = omega arith
neg_fits (negsuc n) h = omega arith

rem_le : (z : ℤ) (k : ℕ) → 0 < k → mag (rem_z z (pos k)) ≤ k
rem_le (pos a) k h = omega (arith, mod-lt a h)
rem_le (negsuc a) k h = neg_mag_le (suc a % k) k (omega (arith, mod-lt (suc a) h))

pub neg_rem_fits : (z : ℤ) (k : ℕ) → 0 < k → k < 2147483647 → SFits w32 (neg_ℤ (rem_z z (pos k)))
neg_rem_fits z k h l = neg_fits (rem_z z (pos k)) (omega (arith, rem_le z k h))

-- a number that a match bound reads back as itself
pub back : (z : ℤ) → mag z < 2 ^ 31 → read z ≡ z
back z h = to_z-of_z {w = w32} (sfits_of h)

-- what fits does not wrap
low_is : (z : ℤ) → SFits w32 z → low32 z ≡ of_z w32 z
low_is (pos n) f = omega arith
low_is (negsuc n) f = omega arith

wrap_is : (z : ℤ) → SFits w32 z → wrap32 z ≡ z
unfolding wrap32
wrap_is z f = ap (to_z w32) (low_is z f) ∙ to_z-of_z f

pub wrap_twice : (z : ℤ) → wrap32 (wrap32 z) ≡ wrap32 z
wrap_twice z = wrap_is (wrap32 z) (wrap_fits z)
