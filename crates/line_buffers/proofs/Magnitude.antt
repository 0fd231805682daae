-- The magnitude of a number of 64 bits, by its sign.
-- `positive_text`, `negative_text`: the number in decimal is the digits of its magnitude, below 0 after a minus sign.
-- `decimal-length`: in decimal it has at most 20 bytes. Assumes nothing.
use mathlib.Core.Path.{◌≡◌, subst}
use mathlib.Core.Bool.{true, false}
use mathlib.Core.List.{◌∷◌}
use Prim.Native.Nat.{ℕ, suc, ◌≤◌}
use native.Mathlib.Omega.{arith}
use borrow.Author.Tests.{ltb-true}
use lib.Dec.{T}
use lib.IntN.{ℤ, pos, negsuc, nat_abs}
use lib.ListN.{length}
use lib.Signed.{lt_z}
use mir.Syntax.{w64}
use mir.Val.{SFits}
use Rattle.line_buffers.specs.Decimal.{digits, decimal}
use Rattle.line_buffers.proofs.Digits.{digits-length}

-- a number in decimal by its sign and its magnitude
pub positive_text : (x : ℤ) (n : ℕ) → n ≡ nat_abs x → lt_z x (pos 0) ≡ false → decimal x ≡ digits n
positive_text (pos n) m h e = rw h
positive_text (negsuc n) m h e = absurd (subst T e tt)

pub negative_text : (x : ℤ) (n : ℕ) → n ≡ nat_abs x → lt_z x (pos 0) ≡ true → decimal x ≡ 45 ∷ digits n
negative_text (pos n) m h e = absurd (let l = ltb-true n 0 e in omega arith)
negative_text (negsuc n) m h e = rw h

-- a minus sign and 19 digits at most
pub decimal-length : (x : ℤ) → SFits w64 x → length (decimal x) ≤ 20
decimal-length (pos n) f = omega (arith, digits-length 18 n (omega arith))
decimal-length (negsuc n) f = omega (arith, digits-length 18 (suc n) (omega arith))
