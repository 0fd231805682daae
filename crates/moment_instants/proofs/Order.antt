-- The order of whole numbers: a bound of a sum is a bound of one summand, less the other. Assumes nothing.
-- `below_sum`: c - b < a exactly where c < a + b.
-- `sum_below`: a < c - b exactly where a + b < c.
use mathlib.Core.Path.{◌≡◌, refl, ◌∙◌, ap, sym}
use mathlib.Core.Bool.{Bool, true, false, not, cond}
use Prim.Native.Nat.{ℕ, zero, suc}
use native.Mathlib.Omega.{arith}
use borrow.Author.Tests.{lt-ltb}
use lib.Dec.{ltb, leb-suc-suc}
use lib.IntN.{ℤ, pos, negsuc, neg_ℤ, ◌+ℤ◌, ◌-ℤ◌, +ℤ_assoc, +ℤ_comm, neg_ℤ-+ℤ, neg_ℤ-neg_ℤ}
use lib.Signed.{lt_z, non_neg}
use Rattle.base_notation.proofs.Magnitudes.{sub_is}

-- a difference is negative where the first number is below the second
below : (t : Bool) (m n : ℕ) → t ≡ not (non_neg (cond t (negsuc m) (pos n)))
below true m n = refl
below false m n = refl

-- a number is less than another where their difference is negative
by_sign : (x y : ℤ) → lt_z x y ≡ not (non_neg (x -ℤ y))
by_sign (pos a) (pos b) = rw (sub_is a b) (below (ltb a b) _ _)
by_sign (pos a) (negsuc b) = refl
by_sign (negsuc a) (pos zero) = rw (lt-ltb 0 (suc a) (omega arith))
by_sign (negsuc a) (pos (suc b)) = refl
by_sign (negsuc a) (negsuc b) = sym (leb-suc-suc (suc b) a) ∙ below (ltb (suc b) (suc a)) _ _

module _ (a b c : ℤ) where
  pub below_sum : lt_z (c -ℤ b) a ≡ lt_z c (a +ℤ b)
  below_sum =
      by_sign (c -ℤ b) a
      ∙ ap (λ (z : ℤ). not (non_neg z)) (+ℤ_assoc c (neg_ℤ b) (neg_ℤ a) ∙ ap (λ (z : ℤ). c +ℤ z) (+ℤ_comm (neg_ℤ b) (neg_ℤ a) ∙ sym (neg_ℤ-+ℤ a b)))
      ∙ sym (by_sign c (a +ℤ b))

  pub sum_below : lt_z a (c -ℤ b) ≡ lt_z (a +ℤ b) c
  sum_below =
      by_sign a (c -ℤ b)
      ∙ ap (λ (z : ℤ). not (non_neg (a +ℤ z))) (neg_ℤ-+ℤ c (neg_ℤ b) ∙ ap (λ (z : ℤ). neg_ℤ c +ℤ z) (neg_ℤ-neg_ℤ b) ∙ +ℤ_comm (neg_ℤ c) b)
      ∙ ap (λ (z : ℤ). not (non_neg z)) (sym (+ℤ_assoc a b (neg_ℤ c)))
      ∙ sym (by_sign (a +ℤ b) c)
