-- A text put into a buffer.
use Rattle.std.specs.Prelude.{◌≡◌, refl, List, ℕ, ◌+◌, length}
use Rattle.std.proofs.lemmas.List.Edits.{sets}
use Rattle.base_notation.specs.Text.{utf8}

-- the buffer `after` is `before` with the text's bytes from a place on, and every other byte as it was;
-- r is the place after the text
pub record Put (before : List ℕ) (at : ℕ) (text after : List ℕ) (r : ℕ) : Type 0 where
  pub is : after ≡ sets before at text
  pub next : r ≡ at + length text

-- two bytes at place 1
pub worked : sets (utf8 "....") 1 (utf8 "AM") ≡ utf8 ".AM."
worked = refl
