-- Texts: the bytes of a literal in UTF-8, and the byte at a place.
use Rattle.std.specs.Prelude.{◌≡◌, refl, List, [], ◌∷◌, ◌++◌, ℕ, ◌+◌, ◌/◌, ◌%◌, ltb, get_or}
use Prim.Native.Char.{code}
use Prim.Native.String.{String, [] as []ˢ, ◌∷◌ as ◌∷ˢ◌}
use Rattle.base_notation.specs.Choice.{when◌then◌else◌}

-- the bytes of one character in UTF-8, by its code point
abbrev pub encoded : ℕ → List ℕ
encoded c =
    when ltb c 0x80 then c ∷ []
    else when ltb c 0x800 then (0xc0 + c / 64) ∷ (0x80 + c % 64) ∷ []
    else when ltb c 0x10000 then (0xe0 + c / 4096) ∷ (0x80 + c / 64 % 64) ∷ (0x80 + c % 64) ∷ []
    else (0xf0 + c / 262144) ∷ (0x80 + c / 4096 % 64) ∷ (0x80 + c / 64 % 64) ∷ (0x80 + c % 64) ∷ []

-- the bytes of a text in UTF-8
abbrev pub utf8 : String → List ℕ
utf8 []ˢ = []
utf8 (c ∷ˢ s) = encoded (code c) ++ utf8 s

-- the byte at a place, 0 past the end
abbrev pub byte_at : List ℕ → ℕ → ℕ
byte_at t at = get_or t at 0

-- a letter of two bytes between letters of one
pub vietnamese : utf8 "này" ≡ 110 ∷ 0xc3 ∷ 0xa0 ∷ 121 ∷ []
vietnamese = refl

-- the euro sign has three bytes, a musical sign four
pub wide : utf8 "€𝄞" ≡ 0xe2 ∷ 0x82 ∷ 0xac ∷ 0xf0 ∷ 0x9d ∷ 0x84 ∷ 0x9e ∷ []
wide = refl
