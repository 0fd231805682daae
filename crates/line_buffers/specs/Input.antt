-- Where a byte is, and what a buffer keeps of an unfinished line.
use Rattle.std.specs.Prelude.{◌≡◌, refl, ⊤, Bool, true, false, not, Option, Some, None, MatchOption, ◌&&◌, ◌||◌, List, [], ℕ, ◌+◌, ◌-◌, ◌≤◌, max, eqb, leb, length, drop}
use Prim.Native.Char.{code}
use Rattle.std.proofs.lemmas.List.Edits.{sets}
use Rattle.std.proofs.Math.Seq.{slice}
use Rattle.base_notation.specs.Choice.{when◌then◌else◌}
use Rattle.base_notation.specs.Text.{utf8}
use Rattle.base_strtol.specs.Runs.{leading}

-- how many bytes are before the first b, or in the whole text where it has none
abbrev pub before : ℕ → List ℕ → ℕ
before b s = leading (λ x. not (eqb x b)) s

-- r is the place of the first b from a place on, or the text's end
pub record Found (s : List ℕ) (from b r : ℕ) : Type 0 where
  pub is : r ≡ from + before b (drop from s)
  pub on : from ≤ r
  pub within : r ≤ max from (length s)

-- a line from `from` to `to` does not fit a buffer of a size: its beginning was left off before, or it fills the buffer
abbrev pub too_long : ℕ → ℕ → ℕ → Bool → Bool
too_long size from to long = long || (eqb from 0 && leb size to)

-- the bytes kept of it
abbrev pub kept : List ℕ → ℕ → ℕ → Bool → List ℕ
kept buf from to long = when too_long (length buf) from to long then [] else slice from to buf

-- the kept bytes are in front, with room after them; none where the line is too long
pub record Keeps (buf : List ℕ) (from to : ℕ) (long : Bool) (after : List ℕ) (r : Option ℕ) : Type 0 where
  pub is : r ≡ (when too_long (length buf) from to long then None else Some (length (kept buf from to long)))
  pub front : after ≡ sets buf 0 (kept buf from to long)
  pub room : MatchOption r ⊤ (λ count. count ≤ length buf - 1)

-- two lines and the beginning of a third, in a buffer of 8 bytes
pub found : (before (code "\n") (utf8 "ab\nc\nde") ≡ 2) × (before (code "\n") (utf8 "de") ≡ 2)
unfolding leading
found = (refl, refl)

pub fitting
    : (kept (utf8 "ab\nc\ndef") 5 8 false ≡ utf8 "def") × (sets (utf8 "ab\nc\ndef") 0 (utf8 "def") ≡ utf8 "defc\ndef")
    × (kept (utf8 "abcdefgh") 0 8 false ≡ []) × (too_long 8 0 8 false ≡ true)
fitting = (refl, refl, refl, refl)
