-- Well-formed UTF-8, by the Unicode Standard's table of well-formed byte sequences (Table 3-7).
use Rattle.std.specs.Prelude.{◌≡◌, refl, Bool, true, false, ◌&&◌, List, [], ◌∷◌, map, ℕ, zero, suc, pred, ◌+◌, ◌*◌, ◌≤◌, ltb, length, drop, replicate}
use Rattle.base_notation.specs.Choice.{when◌then◌else◌}
use Rattle.base_notation.specs.Text.{utf8}
use Rattle.base_chars.specs.Range.{Range, ◌‥◌, ◌∈◌}

-- the table: a row has the ranges of the first, second, third and fourth byte of a sequence
abbrev pub table : List (List Range)
table =
    (0x00 ‥ 0x7f ∷ [])
    ∷ (0xc2 ‥ 0xdf ∷ 0x80 ‥ 0xbf ∷ [])
    ∷ (0xe0 ‥ 0xe0 ∷ 0xa0 ‥ 0xbf ∷ 0x80 ‥ 0xbf ∷ [])
    ∷ (0xe1 ‥ 0xec ∷ 0x80 ‥ 0xbf ∷ 0x80 ‥ 0xbf ∷ [])
    ∷ (0xed ‥ 0xed ∷ 0x80 ‥ 0x9f ∷ 0x80 ‥ 0xbf ∷ [])
    ∷ (0xee ‥ 0xef ∷ 0x80 ‥ 0xbf ∷ 0x80 ‥ 0xbf ∷ [])
    ∷ (0xf0 ‥ 0xf0 ∷ 0x90 ‥ 0xbf ∷ 0x80 ‥ 0xbf ∷ 0x80 ‥ 0xbf ∷ [])
    ∷ (0xf1 ‥ 0xf3 ∷ 0x80 ‥ 0xbf ∷ 0x80 ‥ 0xbf ∷ 0x80 ‥ 0xbf ∷ [])
    ∷ (0xf4 ‥ 0xf4 ∷ 0x80 ‥ 0x8f ∷ 0x80 ‥ 0xbf ∷ 0x80 ‥ 0xbf ∷ [])
    ∷ []

-- the list begins with a byte of each range, in order
abbrev pub begins : List Range → List ℕ → Bool
begins [] s = true
begins (r ∷ rs) [] = false
begins (r ∷ rs) (b ∷ s) = b ∈ r && begins rs s

-- the length of the first row that the list begins with, 0 where there is none
abbrev pub first_row : List (List Range) → List ℕ → ℕ
first_row [] s = 0
first_row (row ∷ rows) s = when begins row s then length row else first_row rows s

-- the length of the sequence that the list begins with, 0 where there is none
unfoldable pub sequence : List ℕ → ℕ
sequence s = first_row table s

-- after k more bytes of a sequence that was found, the list is sequences one after another. k is at most what is left
unfoldable pub well_formed_after : ℕ → List ℕ → Bool
well_formed_after k [] = true
well_formed_after (suc k) (b ∷ s) = well_formed_after k s
well_formed_after zero (b ∷ s) =
    let n = sequence (b ∷ s) in ltb 0 n && well_formed_after (pred n) s

-- the list is sequences one after another
abbrev pub well_formed : List ℕ → Bool
well_formed s = well_formed_after 0 s

-- the text from the second place on is well-formed exactly when the text from the first on is
pub record Passed (s : List ℕ) (from at : ℕ) : Type 0 where
  pub forward : from ≤ at
  pub same : well_formed (drop at s) ≡ well_formed (drop from s)

-- the bytes as one number, the first the lowest, each 0x80 if its high bit is set and 0 if it is ASCII
unfoldable pub high_bits : List ℕ → ℕ
high_bits [] = 0
high_bits (b ∷ s) = high_bits s * 256 + (when ltb b 0x80 then 0 else 0x80)

pub second_and_third : high_bits (utf8 "gà ") ≡ 0x808000
unfolding high_bits
second_and_third = refl

-- texts of characters of 1, 2, 3 and 4 bytes
pub texts : (well_formed [] ≡ true) × (well_formed (utf8 "ngày 05") ≡ true) × (well_formed (utf8 "€𝄞") ≡ true)
unfolding well_formed_after sequence
texts = (refl, refl, refl)

-- the first and the last sequence of each row
abbrev row_ends : List (List ℕ)
row_ends =
    (0x00 ∷ []) ∷ (0x7f ∷ [])
    ∷ (0xc2 ∷ 0x80 ∷ []) ∷ (0xdf ∷ 0xbf ∷ [])
    ∷ (0xe0 ∷ 0xa0 ∷ 0x80 ∷ []) ∷ (0xe0 ∷ 0xbf ∷ 0xbf ∷ [])
    ∷ (0xe1 ∷ 0x80 ∷ 0x80 ∷ []) ∷ (0xec ∷ 0xbf ∷ 0xbf ∷ [])
    ∷ (0xed ∷ 0x80 ∷ 0x80 ∷ []) ∷ (0xed ∷ 0x9f ∷ 0xbf ∷ [])
    ∷ (0xee ∷ 0x80 ∷ 0x80 ∷ []) ∷ (0xef ∷ 0xbf ∷ 0xbf ∷ [])
    ∷ (0xf0 ∷ 0x90 ∷ 0x80 ∷ 0x80 ∷ []) ∷ (0xf0 ∷ 0xbf ∷ 0xbf ∷ 0xbf ∷ [])
    ∷ (0xf1 ∷ 0x80 ∷ 0x80 ∷ 0x80 ∷ []) ∷ (0xf3 ∷ 0xbf ∷ 0xbf ∷ 0xbf ∷ [])
    ∷ (0xf4 ∷ 0x80 ∷ 0x80 ∷ 0x80 ∷ []) ∷ (0xf4 ∷ 0x8f ∷ 0xbf ∷ 0xbf ∷ [])
    ∷ []

pub taken : map well_formed row_ends ≡ replicate 18 true
unfolding well_formed_after sequence
taken = refl

-- just outside the rows: a lone continuation; overlong forms of 2, 3 and 4 bytes; surrogates; above U+10FFFF;
-- a byte that is no continuation where one is due; a sequence cut short
abbrev outside : List (List ℕ)
outside =
    (0x80 ∷ []) ∷ (0xbf ∷ [])
    ∷ (0xc0 ∷ 0x80 ∷ []) ∷ (0xc1 ∷ 0xbf ∷ [])
    ∷ (0xe0 ∷ 0x9f ∷ 0xbf ∷ []) ∷ (0xf0 ∷ 0x8f ∷ 0xbf ∷ 0xbf ∷ [])
    ∷ (0xed ∷ 0xa0 ∷ 0x80 ∷ []) ∷ (0xed ∷ 0xbf ∷ 0xbf ∷ [])
    ∷ (0xf4 ∷ 0x90 ∷ 0x80 ∷ 0x80 ∷ []) ∷ (0xf5 ∷ 0x80 ∷ 0x80 ∷ 0x80 ∷ []) ∷ (0xff ∷ [])
    ∷ (0xc2 ∷ 0x7f ∷ []) ∷ (0xdf ∷ 0xc0 ∷ []) ∷ (0xe1 ∷ 0x80 ∷ 0x7f ∷ []) ∷ (0xf1 ∷ 0x80 ∷ 0x80 ∷ 0xc0 ∷ [])
    ∷ (0xc2 ∷ []) ∷ (0xe1 ∷ 0x80 ∷ []) ∷ (0xf1 ∷ 0x80 ∷ 0x80 ∷ [])
    ∷ []

pub refused : map well_formed outside ≡ replicate 18 false
unfolding well_formed_after sequence
refused = refl
