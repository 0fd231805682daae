-- The pattern at a place of a template.
use Rattle.std.specs.Prelude.{◌≡◌, refl, Bool, true, ◌&&◌, List, [], ◌∷◌, ℕ, zero, suc, ◌+◌, eqb, length, Option, None, Some}
use Rattle.base_notation.specs.Choice.{when◌then◌else◌}
use Rattle.base_notation.specs.Text.{utf8, byte_at}
use Rattle.template_patterns.specs.Patterns.{names}
use Rattle.template_patterns.specs.Rows.{in_rows}
use Rattle.template_patterns.specs.declared.Found.{Found}

-- the name is in t from `at` on; past the end of t a 0 is read, which no name has
abbrev pub matches_at : List ℕ → List ℕ → ℕ → Bool
matches_at [] t at = true
matches_at (c ∷ cs) t at = eqb (byte_at t at) c && matches_at cs t (at + 1)

-- a pattern by its number, and the length of its name
abbrev pub found_pattern : ℕ → ℕ → Found
found_pattern number len = record { number = number; len = len }

-- the first of the names that is there, with its number, counted from k, and its length
abbrev pub first_at : ℕ → List (List ℕ) → List ℕ → ℕ → Option Found
first_at k [] t at = None
first_at k (n ∷ ns) t at = when matches_at n t at then Some (found_pattern k (length n)) else first_at (suc k) ns t at

-- the first pattern in table order whose name is at a place
unfoldable pub pattern_at : List ℕ → ℕ → Option Found
pattern_at t at = first_at 0 names t at

-- the number of the first name that begins with the byte c, counted from k; none if no name does
abbrev pub first_with : ℕ → ℕ → List (List ℕ) → Option ℕ
first_with k c [] = None
first_with k c (n ∷ ns) = when eqb (byte_at n 0) c then Some k else first_with (suc k) c ns

-- where the search for a pattern that begins with a byte starts
unfoldable pub start_of : ℕ → Option ℕ
start_of c = first_with 0 c names

-- the length of the name if it is at a place, else 0
abbrev pub length_at : List ℕ → List ℕ → ℕ → ℕ
length_at name t at = when matches_at name t at then length name else 0

-- the names in rows of five bytes, as long as the longest
unfoldable pub name_table : List ℕ
name_table = in_rows 5 names

-- n numbers from k on
abbrev pub count_from : ℕ → ℕ → List ℕ
count_from k zero = []
count_from k (suc n) = k ∷ count_from (suc k) n

-- the longer of HH24 and HH is found at place 1; no pattern begins with a space
pub worked : (pattern_at (utf8 " HH24:MI") 1 ≡ Some (found_pattern 21 4)) × (pattern_at (utf8 "HH:MI") 0 ≡ Some (found_pattern 23 2)) × (pattern_at (utf8 " HH24") 0 ≡ None)
unfolding pattern_at
worked = (refl, refl, refl)

-- 21 is the first name that begins with H, and none of the 112 begins with E
pub firsts : (start_of 72 ≡ Some 21) × (start_of 69 ≡ None)
unfolding start_of
firsts = (refl, refl)
