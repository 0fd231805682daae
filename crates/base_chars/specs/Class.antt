-- The class of a byte in C's locale. Each byte has one, so no byte passes two of the tests.
use Rattle.std.specs.Prelude.{◌≡◌, refl, Bool, ◌||◌, [], ◌∷◌, map, ℕ, eqb}
use Prim.Native.Char.{code}
use Rattle.base_notation.specs.Choice.{when◌then◌else◌}
use Rattle.base_chars.specs.Range.{◌‥◌, ◌∈◌}

pub data Class : Type 0 where
  space digit letter separator other : Class

-- 9 to 13 are tab, newline, vertical tab, form feed and return; a separator is what else ASCII prints
unfoldable pub class_of : ℕ → Class
class_of b =
    when b ∈ 9 ‥ 13 || eqb b (code " ") then space
    else when b ∈ code "0" ‥ code "9" then digit
    else when b ∈ code "A" ‥ code "Z" || b ∈ code "a" ‥ code "z" then letter
    else when b ∈ code "!" ‥ code "~" then separator
    else other

-- the classes by number
abbrev pub rank : Class → ℕ
rank space = 0
rank digit = 1
rank letter = 2
rank separator = 3
rank other = 4

-- whether two classes are the same
infix 45 ◌is◌
abbrev pub ◌is◌ : Class → Class → Bool
c is k = eqb (rank c) (rank k)

abbrev pub is_space : ℕ → Bool
is_space b = class_of b is space

abbrev pub is_digit : ℕ → Bool
is_digit b = class_of b is digit

abbrev pub is_letter : ℕ → Bool
is_letter b = class_of b is letter

abbrev pub is_separator : ℕ → Bool
is_separator b = class_of b is separator

-- the bytes at the ends of each class
pub spaces_at : map class_of (8 ∷ 9 ∷ 13 ∷ 14 ∷ 31 ∷ 32 ∷ []) ≡ other ∷ space ∷ space ∷ other ∷ other ∷ space ∷ []
unfolding class_of
spaces_at = refl

pub printed_at
    : map class_of (33 ∷ 47 ∷ 48 ∷ 57 ∷ 58 ∷ 64 ∷ 65 ∷ 90 ∷ 91 ∷ 96 ∷ 97 ∷ 122 ∷ 123 ∷ 126 ∷ [])
    ≡ separator ∷ separator ∷ digit ∷ digit ∷ separator ∷ separator ∷ letter ∷ letter ∷ separator ∷ separator
    ∷ letter ∷ letter ∷ separator ∷ separator ∷ []
unfolding class_of
printed_at = refl

pub others_at : map class_of (0 ∷ 127 ∷ 128 ∷ 255 ∷ []) ≡ other ∷ other ∷ other ∷ other ∷ []
unfolding class_of
others_at = refl
