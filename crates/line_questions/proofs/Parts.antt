-- The items of a line, one after the other.
-- `next_item`: where a place is within the line, the next item ends at the next space, and the other items are from
-- there on. `no_items`: past the line's end there is none. Assumes nothing.
use mathlib.Core.Path.{◌≡◌}
use mathlib.Core.List.{List, [], ◌∷◌}
use Prim.Native.Nat.{ℕ, ◌+◌, ◌-◌, ◌≤◌, ◌<◌}
use native.Mathlib.Numerals.{add-one}
use native.Mathlib.Omega.{arith}
use lib.ListN.{length, take, drop, drop_of_length-le}
use lib.Seq.{drop-cons, drop-drop}
use Rattle.line_buffers.specs.Input.{before, Found}
use Rattle.line_numbers.proofs.Items.{first_item}
use Rattle.line_questions.specs.Items.{items_at}

module _ (line : List ℕ) (at : ℕ) where
  pub next_item : (end : ℕ) → at < length line → Found line (at + 1) 32 end
      → items_at line at ≡ take (end - (at + 1)) (drop (at + 1) line) ∷ items_at line end
  next_item end h f =
      let n = before 32 (drop (at + 1) line) in
      let size : end - (at + 1) ≡ n = omega (arith, f.is) in
      rw (drop-cons line at 0 h, ← add-one at, first_item (drop (at + 1) line), size, f.is, drop-drop n (at + 1) line)

  pub no_items : length line ≤ at → items_at line at ≡ []
  no_items h = rw (drop_of_length-le line h)
