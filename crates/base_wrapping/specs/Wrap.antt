-- Two's complement at 32 bits, and the arithmetic of i32 that wraps.
use Rattle.std.specs.Prelude.{◌≡◌, ℕ, ◌-◌, ◌%◌, ◌^◌, ℤ, pos, negsuc, ◌+ℤ◌, ◌-ℤ◌, ◌*ℤ◌, int_div, refl}
use Rattle.std.specs.Int.{w32}
use Rattle.std.proofs.Common.{to_z}

-- the lowest 32 bits of a number in two's complement: -(n + 1) has those of n inverted
abbrev pub low32 : ℤ → ℕ
low32 (pos n) = n % 2 ^ 32
low32 (negsuc n) = 2 ^ 32 - 1 - n % 2 ^ 32

-- the i32 that has the lowest 32 bits of z
unfoldable pub wrap32 : ℤ → ℤ
wrap32 z = to_z w32 (low32 z)

-- the sum, the difference and the product that wrap, and the quotient toward zero
infixl 60 ◌⊕◌ ◌⊖◌
infixl 70 ◌⊗◌ ◌÷◌
abbrev pub ◌⊕◌ : ℤ → ℤ → ℤ
a ⊕ b = wrap32 (a +ℤ b)

abbrev pub ◌⊖◌ : ℤ → ℤ → ℤ
a ⊖ b = wrap32 (a -ℤ b)

abbrev pub ◌⊗◌ : ℤ → ℤ → ℤ
a ⊗ b = wrap32 (a *ℤ b)

abbrev pub ◌÷◌ : ℤ → ℤ → ℤ
a ÷ b = int_div a b

-- -1 has all bits set
pub all_set : low32 (negsuc 0) ≡ 4294967295
all_set = refl

-- past the largest i32 comes the smallest, and before the smallest the largest
pub past_max : pos 2147483647 ⊕ pos 1 ≡ negsuc 2147483647
unfolding wrap32
past_max = refl

pub past_min : negsuc 2147483647 ⊖ pos 1 ≡ pos 2147483647
unfolding wrap32
past_min = refl

-- a longer number loses what is above its lowest 32 bits
pub cut : (wrap32 (pos 4294967298) ≡ pos 2) × (wrap32 (negsuc 4294967297) ≡ negsuc 1)
unfolding wrap32
cut = (refl, refl)

-- 65536 * 65537 is 65536 above 2 ^ 32
pub product : pos 65536 ⊗ pos 65537 ≡ pos 65536
unfolding wrap32
product = refl

-- -7 / 2 is -3; the product and the quotient bind tighter than the sum
pub quotients : (negsuc 6 ÷ pos 2 ≡ negsuc 2) × (pos 1 ⊕ pos 2 ⊗ pos 3 ≡ pos 7)
unfolding wrap32
quotients = (refl, refl)
