-- Signed sums: an i32 as an i64, and differences of natural numbers. Assumes nothing.
-- `wide`, `wide_fits`: an i32 cast to i64 is the same number, and fits.
-- `sub_same`: a - b is c - d where a + d is c + b.
-- `swap`: x + d - e is x - e + d. `sub_sub`: x - b - c is x - (b + c).
use mathlib.Core.Path.{◌≡◌, refl, ◌∙◌, ap, sym}
use mathlib.Core.Bool.{Bool, true, false}
use Prim.Native.Nat.{ℕ, ◌+◌}
use native.Mathlib.Omega.{arith}
use borrow.Author.Tests.{lt-ltb, le-ltb, ltb-true, ltb-false}
use lib.Dec.{ltb}
use lib.IntN.{ℤ, pos, negsuc, neg_ℤ, sub_ℕ, ◌+ℤ◌, ◌-ℤ◌, +ℤ_assoc, +ℤ_comm, neg_ℤ-+ℤ}
use mir.Facts.{to_z-of_z, sfits_widen}
use mir.Syntax.{w32, w64}
use mir.Val.{SFits, to_z, of_z}
use Rattle.base_notation.proofs.Magnitudes.{sub_is}

-- an i32 cast to i64
module _ {z : ℤ} (f : SFits w32 z) where
  pub wide_fits : SFits w64 (to_z w32 (of_z w32 z))
  wide_fits = rw (to_z-of_z f) (sfits_widen {w = w32} {w' = w64} tt f)

  pub wide : to_z w64 (of_z w64 (to_z w32 (of_z w32 z))) ≡ z
  wide = to_z-of_z wide_fits ∙ to_z-of_z f

subℕ_same : (a b c d : ℕ) → a + d ≡ c + b → sub_ℕ a b ≡ sub_ℕ c d
subℕ_same a b c d e = split (ltb a b) refl
  where
    split : (t : Bool) → ltb a b ≡ t → sub_ℕ a b ≡ sub_ℕ c d
    split true p =
        let below = ltb-true a b p in
        rw (p, lt-ltb c d (omega arith)) (ap negsuc (omega arith))
    split false p =
        let not_below = ltb-false a b p in
        rw (p, le-ltb c d (omega arith)) (ap pos (omega arith))

-- two differences are the same where the sums crosswise are
pub sub_same : (a b c d : ℕ) → a + d ≡ c + b → pos a -ℤ pos b ≡ pos c -ℤ pos d
sub_same a b c d e = sub_is a b ∙ subℕ_same a b c d e ∙ sym (sub_is c d)

-- a summand and a subtrahend can be swapped
pub swap : (x d e : ℤ) → x +ℤ d -ℤ e ≡ x -ℤ e +ℤ d
swap x d e = +ℤ_assoc x d (neg_ℤ e) ∙ ap (λ (k : ℤ). x +ℤ k) (+ℤ_comm d (neg_ℤ e)) ∙ sym (+ℤ_assoc x (neg_ℤ e) d)

-- two subtrahends are one
pub sub_sub : (x : ℤ) (b c : ℕ) → x -ℤ pos b -ℤ pos c ≡ x -ℤ pos (b + c)
sub_sub x b c = +ℤ_assoc x (neg_ℤ (pos b)) (neg_ℤ (pos c)) ∙ ap (λ (k : ℤ). x +ℤ k) (sym (neg_ℤ-+ℤ (pos b) (pos c)))
