-- Laws of the byte at a place, where a sign can be. Assumes nothing.
-- `front`: it is the first byte of the text from the place on.
-- `past_end`: past the end there is no sign, since that byte is 0.
use mathlib.Core.Path.{◌≡◌, ◌∙◌}
use mathlib.Core.List.{List}
use Prim.Native.Nat.{ℕ, ◌≤◌}
use native.Mathlib.Nat.{add-zero}
use lib.ListN.{length, drop, get_or-eq_default}
use lib.Seq.{get_or-drop}
use Rattle.base_notation.specs.Text.{byte_at}

module _ (s : List ℕ) (at : ℕ) where
  pub front : byte_at (drop at s) 0 ≡ byte_at s at
  front = rw (get_or-drop, add-zero)

  pub past_end : length s ≤ at → byte_at (drop at s) 0 ≡ 0
  past_end h = front ∙ get_or-eq_default s 0 h
