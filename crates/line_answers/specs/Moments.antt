-- The moment of a line to write: seven numbers with a space between two.
use Rattle.std.specs.Prelude.{◌≡◌, refl, Option, Some, None, ◌&&◌, List, [], ◌∷◌, map, ℕ, eqb, ℤ, pos, negsuc, length, get_or, replicate}
use Rattle.base_notation.specs.Choice.{when◌then◌else◌}
use Rattle.base_notation.specs.Text.{utf8}
use Rattle.base_strtol.specs.Strtol.{strtol_computes}
use Rattle.line_numbers.specs.Items.{items_of}
use Rattle.line_numbers.specs.Numbers.{int_of, narrow, narrowed, number_of}
use Rattle.write_pieces.specs.Moment.{seven_numbers}
use Rattle.write_pieces.specs.declared.Moment.{Moment}

-- the numbers of 32 bits that items are, up to the first that is none
abbrev pub number_then : Option ℤ → List ℤ → List ℤ
number_then (Some z) rest = z ∷ rest
number_then None rest = []

unfoldable pub numbers_in : List (List ℕ) → List ℤ
numbers_in [] = []
numbers_in (i ∷ is) = number_then (int_of i) (numbers_in is)

-- seven items that are numbers; for anything else seven zeros, which are no moment
unfoldable pub seven_of : List ℕ → List ℤ
seven_of s =
    let found = numbers_in (items_of s) in
    when eqb (length (items_of s)) 7 && eqb (length found) 7 then found else replicate 7 (pos 0)

-- the moment of the seven numbers, in this order
unfoldable pub moment_of : List ℕ → Moment
moment_of s =
    let number : ℕ → ℤ = λ i. get_or (seven_of s) i (pos 0) in
    seven_numbers (number 0) (number 1) (number 2) (number 3) (number 4) (number 5) (number 6)

-- seven numbers; one too many, one too few, and one that is none
pub sevens
    : (seven_of (utf8 "2024 2 29 23 59 59 -1") ≡ pos 2024 ∷ pos 2 ∷ pos 29 ∷ pos 23 ∷ pos 59 ∷ pos 59 ∷ negsuc 0 ∷ [])
    × (map seven_of (utf8 "1 2 3 4 5 6 7 8" ∷ utf8 "1 2 3 4 5 6" ∷ utf8 "1 2 3 4 5 6 x" ∷ []) ≡ replicate 3 (replicate 7 (pos 0)))
unfolding seven_of numbers_in items_of narrow narrowed number_of strtol_computes
sevens = (refl, refl)
