-- Wrapping at 32 bits as the library states it. Assumes nothing.
-- `add_is`, `sub_is`, `mul_is`: the library's sum, difference and product that wrap.
-- `cut_is`: the i32 that has the lowest 32 of the 64 bits of z is z wrapped.
use Rattle.std.proofs.Common.{◌≡◌, ◌+◌, ◌-◌, ◌*◌, ◌%◌, ◌^◌, ℤ, pos, negsuc, ◌+ℤ◌, ◌-ℤ◌, ◌*ℤ◌, bit_and, refl, ap, ◌∙◌, arith, w32, w64, SFits, to_z, of_z}
use Rattle.std.proofs.lemmas.Int.{wrapping_add_is, wrapping_sub_is, wrapping_mul_is}
use Rattle.std.proofs.lemmas.Nat.{and_mask}
use Rattle.std.specs.Int.{int_wrap}
use Rattle.base_wrapping.specs.Wrap.{low32, wrap32, ◌⊕◌, ◌⊖◌, ◌⊗◌}

wrap_is : (z : ℤ) → int_wrap w32 z ≡ wrap32 z
unfolding int_wrap wrap32
wrap_is (pos n) = refl
wrap_is (negsuc n) = refl

pub add_is : (a b : ℤ) → SFits w32 a → SFits w32 b → to_z w32 ((of_z w32 a + of_z w32 b) % 4294967296) ≡ a ⊕ b
add_is a b f g = wrapping_add_is w32 a b f g ∙ wrap_is (a +ℤ b)

pub sub_is : (a b : ℤ) → SFits w32 a → SFits w32 b → to_z w32 ((of_z w32 a + (4294967296 - of_z w32 b)) % 4294967296) ≡ a ⊖ b
sub_is a b f g = wrapping_sub_is w32 a b f g ∙ wrap_is (a -ℤ b)

pub mul_is : (a b : ℤ) → SFits w32 a → SFits w32 b → to_z w32 (of_z w32 a * of_z w32 b % 4294967296) ≡ a ⊗ b
mul_is a b f g = wrapping_mul_is w32 a b f g ∙ wrap_is (a *ℤ b)

low_is : (z : ℤ) → SFits w64 z → of_z w64 z % 2 ^ 32 ≡ low32 z
low_is (pos n) f = refl
low_is (negsuc n) f = omega arith

pub cut_is : (z : ℤ) → SFits w64 z → to_z w32 (bit_and (of_z w64 z) (2 ^ 32 - 1)) ≡ wrap32 z
unfolding wrap32
cut_is z f = ap (to_z w32) (and_mask (of_z w64 z) 32 ∙ low_is z f)
