-- The items of a text: what is between its spaces.
use Rattle.std.specs.Prelude.{◌≡◌, refl, List, [], ◌∷◌, ℕ, eqb}
use Prim.Native.Char.{code}
use Rattle.base_notation.specs.Choice.{when◌then◌else◌}
use Rattle.base_notation.specs.Text.{utf8}

-- a byte in front of the first item
abbrev pub in_front : ℕ → List (List ℕ) → List (List ℕ)
in_front b [] = (b ∷ []) ∷ []
in_front b (i ∷ is) = (b ∷ i) ∷ is

-- the items of a text, one more than it has spaces
unfoldable pub items_of : List ℕ → List (List ℕ)
items_of [] = [] ∷ []
items_of (b ∷ s) = when eqb b (code " ") then [] ∷ items_of s else in_front b (items_of s)

-- the items after a separator; none where the text ends
abbrev pub items_after : List ℕ → List (List ℕ)
items_after [] = []
items_after (b ∷ s) = items_of s

-- two spaces have an empty item between them
pub items : (items_of (utf8 "12 -3") ≡ utf8 "12" ∷ utf8 "-3" ∷ []) × (items_of (utf8 "1  2") ≡ utf8 "1" ∷ [] ∷ utf8 "2" ∷ [])
unfolding items_of
items = (refl, refl)
