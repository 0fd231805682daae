-- A bit that is not set in a mask with more bits was not set in either. Assumes nothing.
-- `unset_before`: not in the mask as it was; `unset_added`: not in what was added.
use mathlib.Core.Path.{◌≡◌, ◌∙◌, ap}
use mathlib.Core.Bool.{false}
use Prim.Native.Nat.{ℕ, zero, suc, ◌/◌, ◌%◌, ◌≤◌, ◌<◌, ◌^◌}
use native.Mathlib.Omega.{arith}
use borrow.Author.Tests.{eqb-true, eq-eqb}
use lib.Bits.{bit_and, bit_or, and_step, and_zero_r, and_le_r, or_comm, or_shr, or_mod, or_add_and}
use Rattle.moment_date.specs.Dates.{is_set}
use Rattle.moment_sums.proofs.Tests.{passed}

or_le : (a b : ℕ) → a ≤ bit_or a b
or_le a b = omega (arith, or_add_and a b, and_le_r a b)

-- bit by bit, for a c of k bits
unset : (k a b c : ℕ) → c < 2 ^ k → bit_and (bit_or a b) c ≡ 0 → bit_and a c ≡ 0
unset zero a b c h e = let z : c ≡ 0 = omega arith in rw (z, and_zero_r)
unset (suc k) a b c h e =
    let lowest_bit = rw (or_shr a b 1, or_mod a b 1) at (and_step (bit_or a b) c) in
    let other_bits = unset k (a / 2) (b / 2) (c / 2) (omega arith) (omega arith) in
    omega (arith, and_step a c, or_le (a % 2) (b % 2))

module _ (set more bit : ℕ) (h : bit < 8) where
  pub unset_before : is_set bit (bit_or set more) ≡ false → is_set bit set ≡ false
  unset_before e = rw (eq-eqb (bit_and set bit) 0 (unset 3 set more bit h (eqb-true _ 0 (passed _ e))))

  pub unset_added : is_set bit (bit_or set more) ≡ false → is_set bit more ≡ false
  unset_added e =
      rw (eq-eqb (bit_and more bit) 0 (unset 3 more set bit h (ap (λ (n : ℕ). bit_and n bit) (or_comm more set) ∙ eqb-true _ 0 (passed _ e))))
