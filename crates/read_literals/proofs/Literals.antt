-- Spaces that are skipped. Assumes nothing.
-- `spaces_few`: no more spaces are skipped than the input has bytes.
-- `entered_within`: past the spaces before a node the place is still within the input.
use mathlib.Core.Bool.{Bool}
use mathlib.Core.List.{List}
use Prim.Native.Nat.{ℕ, ◌≤◌}
use native.Mathlib.Omega.{arith}
use lib.ListN.{length, drop, length-drop}
use Rattle.base_notation.proofs.Cases.{by_if}
use Rattle.base_notation.specs.Choice.{when◌then◌else◌}
use Rattle.base_chars.specs.Class.{is_space}
use Rattle.base_strtol.specs.Runs.{spaces}
use Rattle.base_strtol.proofs.Leading.{leading_place, leading_within}
use Rattle.read_literals.specs.Literals.{entered_by, skipped}
use Rattle.read_fields.specs.Fields.{is_exact}
use Rattle.read_fields.specs.declared.Place.{Place}

-- no more spaces are skipped than the input has bytes
pub spaces_few : (s : List ℕ) (p : Place) → spaces (drop p.at s) ≤ length s
spaces_few s p = omega (arith, leading_within is_space (drop p.at s), length-drop p.at s)

-- a place within the input is still there past the spaces
pub entered_within : (s : List ℕ) (p : Place) (skip : Bool) → p.at ≤ length s → (entered_by s skip p).at ≤ length s
entered_within s p skip h =
    by_if (λ (q : Place). q.at ≤ length s) (is_exact p) p (when skip then skipped s p else p) (λ e. h)
    (λ e. by_if (λ (q : Place). q.at ≤ length s) skip (skipped s p) p (λ e. omega (arith, leading_place is_space s p.at)) (λ e. h))
