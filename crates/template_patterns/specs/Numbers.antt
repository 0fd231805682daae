-- Names of patterns as numbers, each compared with a template at once.
use Rattle.std.specs.Prelude.{◌≡◌, refl, List, [], ◌∷◌, ℕ, ◌+◌, ◌*◌, ◌^◌, ◌<◌, length}
use Rattle.base_notation.specs.Text.{byte_at, utf8}
use Rattle.template_patterns.specs.Patterns.{name_of}

-- bytes as a number, the first the lowest
abbrev pub packed : List ℕ → ℕ
packed [] = 0
packed (b ∷ bs) = b + 256 * packed bs

-- a name of up to five bytes as a number, and above them how many bits they have
abbrev pub number_of : List ℕ → ℕ
number_of name = packed name + 2 ^ 40 * (8 * length name)

-- the name of pattern k as a number; past the table's end 0
unfoldable pub name_number : ℕ → ℕ
name_number k = number_of (name_of k)

-- the five bytes from a place on as a number; past the end of t zeros
abbrev pub five_at : List ℕ → ℕ → ℕ
five_at t at = packed (byte_at t at ∷ byte_at t (at + 1) ∷ byte_at t (at + 2) ∷ byte_at t (at + 3) ∷ byte_at t (at + 4) ∷ [])

-- r is that number, and they are bytes
pub record Key (t : List ℕ) (at r : ℕ) : Type 0 where
  pub is : r ≡ five_at t at
  pub bytes : (i : ℕ) → byte_at t i < 256

-- D is 0x44 and Y is 0x59; the two letters have 16 bits
pub worked : (name_number 10 ≡ 0x100000005944) × (five_at (utf8 "-DY") 1 ≡ 0x5944)
unfolding name_number
worked = (refl, refl)
