-- Spaces and digits in front of a text.
use Rattle.std.specs.Prelude.{◌≡◌, refl, Bool, List, [], ◌∷◌, ℕ, suc, ◌+◌, ◌-◌, ◌*◌}
use Prim.Native.Char.{code}
use Rattle.base_notation.specs.Choice.{when◌then◌else◌}
use Rattle.base_notation.specs.Text.{utf8}
use Rattle.base_chars.specs.Class.{class_of, is_space, is_digit}

-- how many bytes in front pass a test
unfoldable pub leading : (ℕ → Bool) → List ℕ → ℕ
leading test [] = 0
leading test (b ∷ s) = when test b then suc (leading test s) else 0

-- how many spaces are in front
abbrev pub spaces : List ℕ → ℕ
spaces s = leading is_space s

-- how many digits are in front
abbrev pub digits : List ℕ → ℕ
digits s = leading is_digit s

-- the number n with the digits in front written after its own
unfoldable pub number_from : ℕ → List ℕ → ℕ
number_from n [] = n
number_from n (b ∷ s) = when is_digit b then number_from (n * 10 + (b - code "0")) s else n

-- the number that the digits in front are, however long
abbrev pub number : List ℕ → ℕ
number s = number_from 0 s

-- two blanks and a tab; three digits, the number 42
pub counted : (spaces (utf8 "  \t042 x") ≡ 3) × (digits (utf8 "042 x") ≡ 3) × (number (utf8 "042 x") ≡ 42)
unfolding leading number_from class_of
counted = (refl, refl, refl)
