-- A place in a text.
-- `no_place`: past the line's end there is none. `next_place`: the next item ends at the next space. Assumes nothing.
use Rattle.std.proofs.Common.{◌≡◌, ℕ, ◌+◌, ◌-◌, ◌≤◌, ◌<◌, Err, List, length, take, drop, length-take, length-drop, arith}
use Rattle.line_buffers.specs.Input.{Found}
use Rattle.line_numbers.specs.Numbers.{number_of}
use Rattle.base_strtol.specs.Strtol.{strtol_computes}
use Rattle.line_questions.specs.Items.{place_of, place_at}
use Rattle.line_questions.proofs.Parts.{next_item, no_items}

module _ (line : List ℕ) (from : ℕ) where
  pub no_place : length line ≤ from → place_at line from ≡ Err from
  unfolding place_of number_of strtol_computes
  no_place h = rw (no_items line from h)

  pub next_place : (end : ℕ) → from < length line → Found line (from + 1) 32 end
      → place_at line from ≡ place_of (number_of (take (end - (from + 1)) (drop (from + 1) line))) from end
  next_place end h f =
      let t = drop (from + 1) line in
      let size : from + 1 + length (take (end - (from + 1)) t) ≡ end = omega (arith, f.on, f.within, length-take (end - (from + 1)) t, length-drop (from + 1) line) in
      rw (next_item line from end h f, size)
