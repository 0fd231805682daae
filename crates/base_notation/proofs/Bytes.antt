-- Laws of the byte at a place. Assumes nothing.
-- `byte_within`: a byte other than 0 is within the text, since past the end it is 0.
use mathlib.Core.Path.{◌≡◌, refl}
use mathlib.Core.Bool.{Bool, true, false}
use mathlib.Core.List.{List}
use Prim.Native.Nat.{ℕ, ◌<◌}
use borrow.Author.Tests.{ltb-true, ltb-false}
use lib.Dec.{ltb}
use lib.ListN.{length, get_or-eq_default}
use Rattle.base_notation.specs.Text.{byte_at}

pub byte_within : (s : List ℕ) (at : ℕ) → (byte_at s at ≡ 0 → ⊥) → at < length s
byte_within s at n = split (ltb at (length s)) refl
  where
    split : (t : Bool) → ltb at (length s) ≡ t → at < length s
    split true e = ltb-true _ _ e
    split false e = absurd (n (get_or-eq_default s 0 (ltb-false _ _ e)))
