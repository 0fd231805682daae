-- A text put into a buffer.
use Rattle.std.specs.Prelude.{◌≡◌, List, ℕ, ◌+◌, ◌-◌, min, length}
use Rattle.std.proofs.lemmas.List.Edits.{sets}

-- the buffer `after` is `before` with the text's bytes stored one by one from a place on, those past its end left off;
-- r is the place after them
pub record Put (before : List ℕ) (at : ℕ) (text after : List ℕ) (r : ℕ) : Type 0 where
  pub is : after ≡ sets before at text
  pub next : r ≡ at + min (length text) (length before - at)
