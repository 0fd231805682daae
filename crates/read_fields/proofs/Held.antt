-- The test whether a field holds another value. Assumes nothing.
-- `answered`: for a value that has 32 bits the answer of holds_other is what the definition says of the value itself.
use mathlib.Core.Path.{◌≡◌, ◌∙◌, sym}
use mathlib.Core.Bool.{Bool}
use mathlib.Core.List.{List}
use Prim.Native.Nat.{ℕ}
use lib.IntN.{ℤ}
use mir.Facts.{to_z-of_z}
use mir.Syntax.{w32}
use mir.Val.{SFits}
use Rattle.base_wrapping.proofs.Fits.{read}
use Rattle.read_fields.specs.Fields.{conflicts, fields_of, get}

-- a caller has the contract's fact of the value as its bits give it back
pub answered
    : (values : List ℤ) (k : ℕ) {z : ℤ} {said is : Bool} → SFits w32 z → said ≡ conflicts (get (fields_of values) k) (read z) → said ≡ is
    → conflicts (get (fields_of values) k) z ≡ is
answered values k fits ensured e = sym (rw (to_z-of_z fits) at ensured) ∙ e
