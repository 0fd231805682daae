-- What the tests of a range say. Assumes nothing.
-- `within`: a number not below the one end and not above the other is in the range.
-- `from_zero`: a number that is `below` n + 1 lies from 0 to n.
use mathlib.Core.Path.{◌≡◌, refl, sym}
use mathlib.Core.Bool.{true, false, not, false≢true}
use Prim.Native.Nat.{ℕ, suc, zero-le}
use native.Mathlib.Omega.{arith}
use borrow.Author.Tests.{ltb-true, ltb-false}
use lib.Dec.{ltb}
use lib.IntN.{ℤ, pos, negsuc}
use lib.Signed.{lt_z}
use Rattle.base_notation.proofs.Cases.{both}
use Rattle.moment_sums.specs.Within.{Within, below}

pub within : (z : ℤ) {low high : ℕ} → lt_z z (pos low) ≡ false → lt_z (pos high) z ≡ false → Within low high z
within (pos n) {low} {high} p q = record { at = n; is = refl; from = ltb-false n low p; to = ltb-false high n q }
within (negsuc n) p q = absurd (false≢true (sym p))

pub from_zero : (z : ℤ) {n : ℕ} → below z (suc n) ≡ true → Within 0 n z
from_zero (pos k) {n} e =
    let under = ltb-true k (suc n) (both (not (ltb k 0)) _ e).1 in
    record { at = k; is = refl; from = zero-le; to = omega arith }
from_zero (negsuc k) e = absurd (false≢true e)
