-- A letter with its accents is one character. The accents are the marks U+0300 to U+036F. Those right after a letter
-- count with it; a mark after anything else counts alone. Without the accents mode each of them counts alone.
use Rattle.std.specs.Prelude.{◌≡◌, refl, Bool, true, false, not, ◌&&◌, List, [], ◌∷◌, ◌++◌, map, ℕ, suc, ◌+◌, ◌-◌, ◌≤◌, min, eqb, ltb, Option, Some, None, length, drop}
use Prim.Native.Char.{code}
use Rattle.base_notation.specs.Choice.{when◌then◌else◌}
use Rattle.base_notation.specs.Text.{byte_at, encoded, utf8}
use Rattle.base_chars.specs.Character.{char_length, lead}
use Rattle.base_chars.specs.Class.{class_of, is_letter}
use Rattle.base_chars.specs.Range.{◌‥◌, ◌∈◌}

-- two bytes are a mark: cc 80 is U+0300, cc bf U+033F, cd 80 U+0340, cd af U+036F
abbrev pub is_mark : ℕ → ℕ → Bool
is_mark b c = when eqb b 0xcc then c ∈ 0x80 ‥ 0xbf else eqb b 0xcd && c ∈ 0x80 ‥ 0xaf

-- there is a mark at a place
unfoldable pub mark_at : List ℕ → ℕ → Bool
mark_at s at = is_mark (byte_at s at) (byte_at s (at + 1))

-- there is a letter at a place: one of ASCII, or a character outside ASCII that is no mark
unfoldable pub letter_at : List ℕ → ℕ → Bool
letter_at s at = let b = byte_at s at in when ltb b 0x80 then is_letter b else not (mark_at s at)

-- how many bytes the marks in front of a text have
unfoldable pub marks : List ℕ → ℕ
marks [] = 0
marks (b ∷ []) = 0
marks (b ∷ c ∷ s) = when is_mark b c then suc (suc (marks s)) else 0

-- the length of the character at a place: in the accents mode a letter has the marks right after it
unfoldable pub measure_of : Bool → List ℕ → ℕ → ℕ
measure_of accents s at =
    let n = char_length s at in
    when accents && letter_at s at then n + marks (drop (at + n) s) else n

-- 1 or 2 where the first byte and the byte after the character leave no doubt of it in both modes; else none
unfoldable pub usual_length : List ℕ → ℕ → Option ℕ
usual_length s at =
    let b = byte_at s at in
    when ltb b 0x80 then (when ltb (byte_at s (at + 1)) 0xcc then Some 1 else None)
    else when b ∈ 0xc0 ‥ 0xcb then (when ltb (byte_at s (at + 2)) 0xcc then Some 2 else None)
    else None

-- r is that length: at least 1 where a byte is left, and within the text
pub record Counted (accents : Bool) (s : List ℕ) (at r : ℕ) : Type 0 where
  pub is : r ≡ measure_of accents s at
  pub some : min 1 (length s - at) ≤ r
  pub within : r ≤ length s - at

-- unfolds all that a character is measured by
unfoldable pub measure_computes : ℕ
unfolding measure_of mark_at letter_at marks char_length lead class_of
measure_computes = 0

-- the characters just outside the marks, and the first and the last of each first byte
pub ends
    : map (λ c. mark_at (encoded c) 0) (0x2ff ∷ 0x300 ∷ 0x33f ∷ 0x340 ∷ 0x36f ∷ 0x370 ∷ [])
    ≡ false ∷ true ∷ true ∷ true ∷ true ∷ false ∷ []
unfolding measure_computes
ends = refl

-- ứ in one, two and three characters, the marks in either order: one character in the accents mode
abbrev horn : List ℕ
horn = encoded 0x31b

abbrev acute : List ℕ
acute = encoded 0x301

abbrev spellings : List (List ℕ)
spellings = utf8 "ứ" ∷ (utf8 "ư" ++ acute) ∷ (utf8 "ú" ++ horn) ∷ (utf8 "u" ++ horn ++ acute) ∷ (utf8 "u" ++ acute ++ horn) ∷ []

pub one_letter
    : (map (λ s. measure_of true s 0) spellings ≡ map length spellings)
    × (map (λ s. measure_of false s 0) spellings ≡ 3 ∷ 2 ∷ 2 ∷ 1 ∷ 1 ∷ [])
unfolding measure_computes
one_letter = (refl, refl)

-- a mark after a digit, a space, a separator or nothing counts alone; so does each after a lone mark
pub alone
    : (map (λ b. measure_of true (b ∷ acute) 0) (code "5" ∷ code " " ∷ code "-" ∷ []) ≡ 1 ∷ 1 ∷ 1 ∷ [])
    × (measure_of true (acute ++ horn) 0 ≡ 2)
unfolding measure_computes
alone = (refl, refl)

-- any other character outside ASCII is a letter: an ideograph, a musical sign, a space that does not break
pub letters : map (λ s. measure_of true (s ++ acute ++ utf8 "a") 0) (utf8 "日" ∷ utf8 "𝄞" ∷ encoded 0xa0 ∷ []) ≡ 5 ∷ 6 ∷ 4 ∷ []
unfolding measure_computes
letters = refl

-- g and à are usual; a letter before a mark, a mark and a character of three bytes are not
pub usual
    : (map (usual_length (utf8 "ngà")) (1 ∷ 2 ∷ []) ≡ Some 1 ∷ Some 2 ∷ [])
    × (map (λ s. usual_length s 0) ((utf8 "u" ++ horn) ∷ (utf8 "ú" ++ horn) ∷ acute ∷ utf8 "ứ" ∷ []) ≡ None ∷ None ∷ None ∷ None ∷ [])
unfolding usual_length
usual = (refl, refl)
