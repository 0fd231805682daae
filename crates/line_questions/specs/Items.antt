-- The items of a question: each follows a separator. They are numbers, a place in a text, or a text as the last item.
use Rattle.std.specs.Prelude.{◌≡◌, refl, Bool, true, false, ◌&&◌, ◌||◌, Option, Some, None, Result, Ok, Err, List, [], ◌∷◌, ◌++◌, map, ℕ, ◌+◌, ◌-◌, ◌*◌, eqb, ltb, leb, ℤ, pos, negsuc, length, drop, get_or, replicate}
use Rattle.std.specs.Str.{bytes_eq}
use Rattle.std.proofs.lemmas.List.Edits.{sets}
use Rattle.base_notation.specs.Choice.{when◌then◌else◌}
use Rattle.base_notation.specs.Text.{utf8}
use Rattle.base_strtol.specs.Strtol.{strtol_computes}
use Rattle.line_numbers.specs.Items.{items_of, items_after}
use Rattle.line_numbers.specs.Numbers.{number_of, narrowed, narrow, int_of, hex_digit, bytes_of}
use Rattle.line_questions.specs.declared.Numbers.{Numbers}
use Rattle.line_questions.specs.declared.Place.{Place}

-- the items of a line from the separator at a place on
abbrev pub items_at : List ℕ → ℕ → List (List ℕ)
items_at line from = items_after (drop from line)

-- all are numbers
unfoldable pub are_numbers : List (Option ℤ) → Bool
are_numbers [] = true
are_numbers (Some z ∷ ns) = are_numbers ns
are_numbers (None ∷ ns) = false

-- the number itself, 0 where it is none
abbrev pub value_of : Option ℤ → ℤ
value_of (Some z) = z
value_of None = pos 0

-- up to three numbers, with zeros in place of the others
abbrev pub numbers : List ℤ → Numbers
numbers zs = record { values = zs ++ replicate (3 - length zs) (pos 0); count = length zs }

-- none where one is no number or there are more than three
unfoldable pub numbers_of : List (Option ℤ) → Numbers
numbers_of ns = when are_numbers ns && leb (length ns) 3 then numbers (map value_of ns) else numbers []

-- the numbers of the items from a place on
abbrev pub numbers_at : List ℕ → ℕ → Numbers
numbers_at line from = numbers_of (map int_of (items_at line from))

-- a number of 0 or more is a place; where there is none, the item from `from` to `end` is not passed
unfoldable pub place_of : Option ℤ → ℕ → ℕ → Result Place ℕ
place_of (Some (pos n)) from end = Ok (record { at = n; end = end })
place_of (Some (negsuc n)) from end = Err from
place_of None from end = Err from

-- the next item as a place, and where that item ends; else where its separator is
abbrev pub place_at : List ℕ → ℕ → Result Place ℕ
place_at line from =
    let item = get_or (items_at line from) 0 [] in place_of (number_of item) from (from + 1 + length item)

-- two texts are the same
abbrev pub same : List ℕ → List ℕ → Bool
same = bytes_eq

-- `-` for no bytes, or pairs of hexadecimal digits to the end
abbrev pub is_hex : List ℕ → Bool
is_hex item = same item (utf8 "-") || eqb (2 * length (bytes_of item)) (length item)

-- the bytes of the last item, which begins after the separator at a place; `-` has none
abbrev pub text_at : List ℕ → ℕ → List ℕ
text_at line from = bytes_of (drop (from + 1) line)

-- how many they are; none where there is no item, where it is not hexadecimal, and where they do not fit the room
unfoldable pub bytes_at : List ℕ → ℕ → ℕ → Option ℕ
bytes_at line from room =
    when ltb from (length line) && (is_hex (drop (from + 1) line) && leb (length (text_at line from)) room)
    then Some (length (text_at line from))
    else None

-- what is read of them, in front of the buffer `after` that was `before`
pub record ReadBytes (line : List ℕ) (from : ℕ) (before after : List ℕ) (r : Option ℕ) : Type 0 where
  pub is : r ≡ bytes_at line from (length before)
  pub front : after ≡ sets before 0 (text_at line from)

-- unfolds all that items are computed by, for worked examples
unfoldable pub items_compute : ℕ
unfolding items_of are_numbers numbers_of place_of bytes_at narrow narrowed number_of bytes_of hex_digit strtol_computes
items_compute = 0

-- two numbers; a third item that is empty, which is no number; four numbers; no items
pub three_numbers
    : (numbers_at (utf8 "q 5 -7") 1 ≡ record { values = pos 5 ∷ negsuc 6 ∷ pos 0 ∷ []; count = 2 })
    × (numbers_at (utf8 "q 5 -7 ") 1 ≡ numbers []) × (numbers_at (utf8 "q 1 2 3 4") 1 ≡ numbers []) × (numbers_at (utf8 "q") 1 ≡ numbers [])
unfolding items_compute
three_numbers = (refl, refl, refl, refl)

-- a place; one below 0; one past 64 bits; none
pub places
    : (place_at (utf8 "q 12 3132") 1 ≡ Ok (record { at = 12; end = 4 })) × (place_at (utf8 "q -1 31") 1 ≡ Err 1)
    × (place_at (utf8 "q 9223372036854775808 31") 1 ≡ Err 1) × (place_at (utf8 "q") 1 ≡ Err 1)
unfolding items_compute
places = (refl, refl, refl, refl)

-- two bytes; none; half a byte; a letter past f; no room; no item
pub bytes
    : (bytes_at (utf8 "q 4a0F") 1 2 ≡ Some 2) × (bytes_at (utf8 "q -") 1 2 ≡ Some 0)
    × (bytes_at (utf8 "q 4a0") 1 2 ≡ None) × (bytes_at (utf8 "q 4g") 1 2 ≡ None)
    × (bytes_at (utf8 "q 4a0F") 1 1 ≡ None) × (bytes_at (utf8 "q") 1 2 ≡ None)
unfolding items_compute
bytes = (refl, refl, refl, refl, refl, refl)
