-- Every year of 32 bits, shifted by whole cycles of 400 years, is positive. Assumes nothing.
-- `shifted`: the shifted year, less 1, is not negative and below 2 ^ 33. `shift_fits`: the shift cannot leave 64 bits.
-- `start_small`: the shifted year is at most 2 ^ 33.
use mathlib.Core.Path.{◌≡◌}
use Prim.Native.Nat.{suc, ◌≤◌, ◌<◌, ◌^◌}
use native.Mathlib.Omega.{arith}
use borrow.Author.Tests.{le-ltb}
use lib.Dec.{T}
use lib.IntN.{ℤ, pos, negsuc, nat_abs, ◌+ℤ◌}
use lib.Signed.{non_neg}
use mir.Facts.{to_z-of_z}
use mir.Syntax.{w32, w64}
use mir.Val.{SFits, to_z, of_z}
use Rattle.calendar_gregorian.proofs.Signed.{wide}

-- y is the year z, shifted, less 1
pub record Shifted (z y : ℤ) : Type 0 where
  pub sign : T (non_neg y)
  pub small : nat_abs y < 2 ^ 33
  pub is : nat_abs (z +ℤ pos 2147484000) ≡ suc (nat_abs y)

shift : (z : ℤ) → SFits w32 z → SFits w64 (z +ℤ pos 2147483999) × Shifted z (z +ℤ pos 2147483999)
shift (pos n) f = (omega arith, record { sign = tt; small = omega arith; is = omega arith })
shift (negsuc n) f =
    rw (le-ltb 2147483999 (suc n) (omega arith))
    (omega arith, record { sign = tt; small = omega arith; is = rw (le-ltb 2147484000 (suc n) (omega arith)) (omega arith) })

module _ {z : ℤ} (f : SFits w32 z) where
  pub shift_fits : SFits w64 (to_z w64 (of_z w64 (to_z w32 (of_z w32 z))) +ℤ pos 2147483999)
  shift_fits = rw (wide f) (shift z f).0

  pub shifted : Shifted z (to_z w64 (of_z w64 (to_z w64 (of_z w64 (to_z w32 (of_z w32 z))) +ℤ pos 2147483999)))
  shifted = rw (to_z-of_z shift_fits, wide f) (shift z f).1

pub start_small : (z : ℤ) → SFits w32 z → nat_abs (z +ℤ pos 2147484000) ≤ 2 ^ 33
start_small z f = omega (arith, (shift z f).1)
