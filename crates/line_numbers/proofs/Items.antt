-- The items of a text, one after another.
-- `first_item`: the first one ends before the first space, and the others are after it. Assumes nothing.
use mathlib.Core.Path.{◌≡◌, refl}
use mathlib.Core.Bool.{true, false}
use mathlib.Core.List.{List, [], ◌∷◌}
use Prim.Native.Nat.{ℕ}
use lib.Dec.{eqb}
use lib.ListN.{take, drop}
use Rattle.base_strtol.specs.Runs.{leading}
use Rattle.line_buffers.specs.Input.{before}
use Rattle.line_numbers.specs.Items.{items_of, items_after}

pub first_item : (s : List ℕ) → items_of s ≡ take (before 32 s) s ∷ items_after (drop (before 32 s) s)
unfolding items_of leading
first_item [] = refl
first_item (b ∷ s) =
    (elim (eqb b 32) as (λ t. eqb b 32 ≡ t → items_of (b ∷ s) ≡ take (before 32 (b ∷ s)) (b ∷ s) ∷ items_after (drop (before 32 (b ∷ s)) (b ∷ s))) [
      | true ↦ λ e. rw e
      | false ↦ λ e. rw (e, first_item s)
    ]) refl
