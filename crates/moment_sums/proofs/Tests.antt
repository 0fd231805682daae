-- A test of a number's bits is the definition's test of the number. Assumes nothing.
-- `equal`, `unequal`: the bits are n, or are not, and so is the number.
-- `absent`, `present`: the same of 0, where a field is absent.
-- `zero_bits`: the test whether the bits are 0 is the test whether the number is.
-- `failed`, `passed`: what the test `not b` found, said of b.
use mathlib.Core.Path.{◌≡◌, refl, sym, ◌∙◌, ap}
use mathlib.Core.Bool.{Bool, true, false, not, false≢true}
use Prim.Native.Nat.{ℕ, ◌<◌, ◌^◌}
use borrow.Author.Tests.{eq-eqb, ne_eqb, eqb-true, eqb-false}
use lib.Dec.{eqb, lit<}
use lib.IntN.{ℤ, pos, negsuc}
use mir.Facts.{to_z-of_z, to_z_pos}
use mir.Syntax.{w32}
use mir.Val.{SFits, to_z, of_z}
use Rattle.read_fields.specs.Fields.{eq_ℤ, is_zero}

same : (n : ℕ) (z : ℤ) → z ≡ pos n → eq_ℤ z (pos n) ≡ true
same n z e = rw (e, eq-eqb n n refl)

different : (n : ℕ) (z : ℤ) → (z ≡ pos n → ⊥) → eq_ℤ z (pos n) ≡ false
different n (pos a) h = ne_eqb a n (λ e. h (ap pos e))
different n (negsuc a) h = refl

pub equal : {z : ℤ} {n : ℕ} → n < 2 ^ 31 → SFits w32 z → of_z w32 z ≡ n → eq_ℤ z (pos n) ≡ true
equal {z} {n} l f e = same n z (sym (to_z-of_z f) ∙ ap (to_z w32) e ∙ to_z_pos w32 l)

pub unequal : {z : ℤ} {n : ℕ} → SFits w32 z → (of_z w32 z ≡ n → ⊥) → eq_ℤ z (pos n) ≡ false
unequal {z} {n} f h = different n z (λ e. h (ap (of_z w32) e))

pub absent : {z : ℤ} → SFits w32 z → of_z w32 z ≡ 0 → is_zero z ≡ true
absent f e = equal (lit< tt) f e

pub present : {z : ℤ} → SFits w32 z → (of_z w32 z ≡ 0 → ⊥) → is_zero z ≡ false
present f h = unequal f h

pub failed : (b : Bool) → not b ≡ true → b ≡ false
failed false e = refl
failed true e = absurd (false≢true e)

pub passed : (b : Bool) → not b ≡ false → b ≡ true
passed false e = absurd (false≢true (sym e))
passed true e = refl

pub zero_bits : {z : ℤ} → SFits w32 z → eqb (of_z w32 z) 0 ≡ is_zero z
zero_bits {z} f = by (eqb (of_z w32 z) 0) refl
  where
    by : (t : Bool) → eqb (of_z w32 z) 0 ≡ t → t ≡ is_zero z
    by true e = sym (absent f (eqb-true (of_z w32 z) 0 e))
    by false e = sym (present f (eqb-false (of_z w32 z) 0 e))
