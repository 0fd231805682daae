-- Sums, differences and products of i32 as their bits give them, which wrap as the definitions say. Assumes nothing.
-- `Bits`: the bits of a number that fits an i32. `of`, `result`: those of an argument and of a call's result.
-- `lit`: those of a small natural.
-- `add`, `sub`, `mul`, `quot`: those of a sum, a difference, a product and a quotient. `value`: what has them.
-- `low`: they are the lowest 32 bits of the definitions.
use Rattle.std.proofs.Common.{◌≡◌, ℕ, ◌+◌, ◌-◌, ◌*◌, ◌%◌, ◌^◌, ◌<◌, ℤ, pos, negsuc, ◌+ℤ◌, ◌-ℤ◌, ◌*ℤ◌, ◌∙◌, refl, sym, ap, arith, w32, SFits, to_z, of_z, to_z-of_z}
use borrow.Author.Rules.{sfits_of}
use lib.Signed.{mag}
use Rattle.std.specs.Int.{int_wrap}
use Rattle.std.proofs.lemmas.Int.{of_z-to_z, wrapping_add_is, wrapping_sub_is, wrapping_mul_is, SFits-int_wrap}
use Rattle.base_wrapping.specs.Wrap.{low32, wrap32, ◌⊕◌, ◌⊖◌, ◌⊗◌, ◌÷◌}
use Rattle.base_wrapping.proofs.Fits.{quot_fits}

-- m is the bits of z
pub record Bits (m : ℕ) (z : ℤ) : Type 0 where
  pub is : m ≡ of_z w32 z
  pub fits : SFits w32 z

wrap_is : (z : ℤ) → int_wrap w32 z ≡ wrap32 z
unfolding wrap32 int_wrap
wrap_is (pos n) = refl
wrap_is (negsuc n) = refl

wrapped : {m : ℕ} (z : ℤ) → m < 2 ^ 32 → to_z w32 m ≡ int_wrap w32 z → Bits m (wrap32 z)
wrapped {m} z h e =
    rw (← wrap_is z) (record { is = sym (of_z-to_z w32 m h) ∙ ap (of_z w32) e; fits = SFits-int_wrap w32 z })

pub of : {r z : ℤ} → SFits w32 r → r ≡ z → Bits (of_z w32 r) z
of f e = rw (← e) (record { is = refl; fits = f })

pub result : {r z : ℤ} → mag r < 2 ^ 31 → r ≡ z → Bits (of_z w32 r) z
result h e = of (sfits_of h) e

pub lit : (n : ℕ) → n < 2 ^ 31 → Bits n (pos n)
lit n h = record { is = refl; fits = omega arith }

pub value : {m : ℕ} {z : ℤ} → Bits m z → to_z w32 m ≡ z
value p = rw p.is (to_z-of_z p.fits)

module _ {m n : ℕ} {a b : ℤ} (p : Bits m a) (q : Bits n b) where
  pub add : Bits ((m + n) % 2 ^ 32) (a ⊕ b)
  add = rw (p.is, q.is) (wrapped (a +ℤ b) (omega arith) (wrapping_add_is w32 a b p.fits q.fits))

  pub sub : Bits ((m + (2 ^ 32 - n)) % 2 ^ 32) (a ⊖ b)
  sub = rw (p.is, q.is) (wrapped (a -ℤ b) (omega arith) (wrapping_sub_is w32 a b p.fits q.fits))

  pub mul : Bits (m * n % 2 ^ 32) (a ⊗ b)
  mul = rw (p.is, q.is) (wrapped (a *ℤ b) (omega arith) (wrapping_mul_is w32 a b p.fits q.fits))

pub quot : {m : ℕ} {a : ℤ} (k : ℕ) → Bits m a → Bits (of_z w32 (to_z w32 m ÷ pos k)) (a ÷ pos k)
quot {m} {a} k p = rw (value p) (record { is = refl; fits = quot_fits a k p.fits })

-- the bits are the lowest 32
pub low : (z : ℤ) → SFits w32 z → of_z w32 z ≡ low32 z
low (pos n) f = omega arith
low (negsuc n) f = omega arith
