-- A character of a text is one UTF-8 sequence, as long as its first byte says.
use Rattle.std.specs.Prelude.{◌≡◌, refl, List, [], ◌∷◌, map, ℕ, ◌-◌, ◌≤◌, min, length, take}
use Rattle.base_notation.specs.Choice.{when◌then◌else◌}
use Rattle.base_notation.specs.Text.{byte_at, utf8}
use Rattle.base_chars.specs.Range.{◌‥◌, ◌∈◌}

-- a character's length by its first byte: 110xxxxx begins 2 bytes, 1110xxxx 3, 11110xxx 4; any other byte counts as 1
unfoldable pub lead : ℕ → ℕ
lead b =
    when b ∈ 0xc0 ‥ 0xdf then 2
    else when b ∈ 0xe0 ‥ 0xef then 3
    else when b ∈ 0xf0 ‥ 0xf7 then 4
    else 1

-- the length of the character at a place, cut where the text ends: past the end it is 0
unfoldable pub char_length : List ℕ → ℕ → ℕ
char_length s at = min (lead (byte_at s at)) (length s - at)

-- r is that length: at most 4, at least 1 where a byte is left, and within the text
pub record Measured (s : List ℕ) (at r : ℕ) : Type 0 where
  pub is : r ≡ char_length s at
  pub some : min 1 (length s - at) ≤ r
  pub most : r ≤ 4
  pub within : r ≤ length s - at

-- the first and the last byte of each length
pub leads
    : map lead (0 ∷ 0x7f ∷ 0x80 ∷ 0xbf ∷ 0xc0 ∷ 0xdf ∷ 0xe0 ∷ 0xef ∷ 0xf0 ∷ 0xf7 ∷ 0xf8 ∷ 0xff ∷ [])
    ≡ 1 ∷ 1 ∷ 1 ∷ 1 ∷ 2 ∷ 2 ∷ 3 ∷ 3 ∷ 4 ∷ 4 ∷ 1 ∷ 1 ∷ []
unfolding lead
leads = refl

-- à, at place 2, has 2 bytes; where the text ends after the first, 1; past the end there are none
pub cut_at_end : (char_length (utf8 "ngày") 2 ≡ 2) × (char_length (take 3 (utf8 "ngày")) 2 ≡ 1) × (char_length (utf8 "ngày") 5 ≡ 0)
unfolding char_length lead
cut_at_end = (refl, refl, refl)
