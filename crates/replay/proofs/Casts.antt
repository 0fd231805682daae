-- Numbers that are cast or handed on.
-- `back`: a signed number in range is read back from its bits as what it is.
-- `flagged`: a truth value as a number is 1 or 0.
-- `end_small`: the end of a number that is read from a place below 2 ^ 63 in a buffer of 512 bytes is below 2 ^ 63.
-- Assumes nothing.
use mathlib.Core.Path.{◌≡◌, ◌∙◌, refl}
use mathlib.Core.Bool.{Bool, true, false}
use mathlib.Core.List.{List}
use Prim.Native.Nat.{ℕ, ◌^◌, ◌<◌}
use native.Mathlib.Omega.{arith}
use lib.IntN.{ℤ, pos}
use lib.ListN.{length, take, length-take}
use lib.Signed.{mag}
use mir.Facts.{to_z-of_z}
use mir.Syntax.{Width}
use mir.Val.{bool_byte, hbits, of_z, to_z}
use Rattle.base_strtol.specs.Strtol.{strtol}
use Rattle.replay.specs.Answers.{flag}
use Rattle.base_strtol.specs.declared.Strtol.{Strtol}
use Rattle.base_strtol.proofs.Places.{end_within}

pub back : (w : Width) {z x : ℤ} → z ≡ x → mag z < 2 ^ hbits w → to_z w (of_z w z) ≡ x
back w e h = to_z-of_z (record { sfits = h }) ∙ e

pub end_small : (s : List ℕ) (count start : ℕ) (n : Strtol) → n ≡ strtol (take count s) start → start < 2 ^ 63 → length s ≡ 512
    → n.end < 2 ^ 63
end_small s count start n e h l = rw e (omega (arith, end_within (take count s) start, length-take count s))

pub flagged : (b : Bool) → pos (bool_byte b) ≡ flag b
flagged true = refl
flagged false = refl
