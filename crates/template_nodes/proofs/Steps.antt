-- The cases of a literal, and of a step.
-- `at_quote`: a quote makes no node. `at_literal`: any other character is a node.
-- `made_one`: a step makes one node at most. Assumes nothing.
use mathlib.Core.Path.{◌≡◌}
use mathlib.Core.Bool.{Bool, not}
use mathlib.Core.List.{List}
use Prim.Native.Nat.{ℕ, ◌+◌, ◌≤◌}
use native.Mathlib.Omega.{arith}
use borrow.Author.Tests.{ne_eqb}
use lib.ListN.{length}
use Rattle.std.specs.Prelude.{Option, None, Some}
use Rattle.base_notation.specs.Choice.{when◌then◌else◌}
use Rattle.base_notation.specs.Text.{byte_at}
use Rattle.template_nodes.specs.Template.{character, char_at, char_place, in_list, kind_of, literal_at, skip}
use Rattle.template_nodes.specs.declared.Node.{Node}

module _ (accents : Bool) (t : List ℕ) (at : ℕ) (quoted : Bool) where
  pub at_quote : byte_at t at ≡ 34 → literal_at accents t at quoted ≡ skip (at + 1) (not quoted)
  unfolding literal_at
  at_quote e = rw e

  pub at_literal : (byte_at t at ≡ 34 → ⊥) → (p : ℕ) → p ≡ char_place t at quoted
      → literal_at accents t at quoted ≡ char_at accents t p (when quoted then character else kind_of (byte_at t p)) quoted
  unfolding literal_at
  at_literal n p e = rw (ne_eqb _ _ n, e)

pub made_one : (made : Option Node) → length (in_list made) ≤ 1
made_one None = omega arith
made_one (Some n) = omega arith
