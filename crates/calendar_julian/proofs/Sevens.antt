-- The remainder by seven and the quotient by seven, for either sign. Assumes nothing.
-- `mod7_is`: the remainder that is never negative is the definition's.
-- `week_fits`: the quotient of an i32, plus 1, fits.
use Rattle.std.proofs.Common.{◌≡◌, refl, ap, ℕ, ◌-◌, zero, neg_ℤ, suc, ◌/◌, ◌%◌, ◌≤◌, ℤ, pos, negsuc, ◌+ℤ◌, arith, w32, SFits, le-ltb}
use lib.Signed.{mag}
use Rattle.std.specs.Int.{int_rem_euclid}
use Rattle.std.specs.Prelude.{int_lt}
use Rattle.base_notation.specs.Choice.{when◌then◌else◌}
use Rattle.calendar_julian.specs.Week.{mod7}
use Rattle.base_wrapping.specs.Wrap.{wrap32, ◌÷◌}
use Rattle.base_notation.proofs.Magnitudes.{add_mag, neg_mag_le}
use Rattle.base_wrapping.proofs.Fits.{wrap_fits}

quot_mag : (z : ℤ) → SFits w32 z → mag (z ÷ pos 7) ≤ 306783379
quot_mag (pos a) f = omega arith
quot_mag (negsuc a) f = neg_mag_le (suc a / 7) 306783379 (omega arith)

pub week_fits : (z : ℤ) → SFits w32 (wrap32 z ÷ pos 7 +ℤ pos 1)
week_fits z = omega (arith, quot_mag (wrap32 z) (wrap_fits z), add_mag (wrap32 z ÷ pos 7) (pos 1))

-- the remainder r, or -r, of a number toward zero
not_negative : (r : ℕ) → pos r ≡ when int_lt (pos r) (pos 0) then pos r +ℤ pos 7 else pos r
not_negative r = rw (le-ltb r 0 (omega arith))

negative : (a r : ℕ) → suc a % 7 ≡ r → pos (6 - a % 7) ≡ when int_lt (neg_ℤ (pos r)) (pos 0) then neg_ℤ (pos r) +ℤ pos 7 else neg_ℤ (pos r)
negative a zero e = ap pos (omega arith)
negative a (suc k) e = rw (le-ltb 7 (suc k) (omega arith)) (ap pos (omega arith))

pub mod7_is : (z : ℤ) → int_rem_euclid z (pos 7) ≡ mod7 z
mod7_is (pos a) = not_negative (a % 7)
mod7_is (negsuc a) = negative a (suc a % 7) refl
