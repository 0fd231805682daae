-- The case of a pattern, which is that of the letters it writes.
use Rattle.std.specs.Prelude.{◌≡◌, refl, Bool, List, [], ◌∷◌, map, ℕ}
use Prim.Native.Char.{code}
use Rattle.base_notation.specs.Choice.{when◌then◌else◌}
use Rattle.base_notation.specs.Text.{byte_at, utf8}
use Rattle.base_chars.specs.Range.{◌‥◌, ◌∈◌}
use Rattle.template_patterns.specs.Patterns.{name_of}
use Rattle.template_patterns.specs.declared.Case.{Case}
use Rattle.template_patterns.specs.declared.Case.TheVariants.{Capitals, Small, Title}

-- byte i of a name is a small letter
abbrev pub is_small : List ℕ → ℕ → Bool
is_small name i = byte_at name i ∈ code "a" ‥ code "z"

-- small if the first byte is a small letter, title if the second is; else capitals
abbrev pub case_in : List ℕ → Case
case_in name = when is_small name 0 then Small else when is_small name 1 then Title else Capitals

-- the case of the pattern number k
unfoldable pub case_of : ℕ → Case
case_of k = case_in (name_of k)

-- a name in each case, one with dots, and one of a single letter
pub worked
    : map case_in (utf8 "MONTH" ∷ utf8 "Month" ∷ utf8 "month" ∷ utf8 "A.M." ∷ utf8 "a.m." ∷ utf8 "D" ∷ [])
    ≡ Capitals ∷ Title ∷ Small ∷ Capitals ∷ Small ∷ Capitals ∷ []
worked = refl

-- the patterns AM, am and Month
pub cases : (case_of 3 ≡ Capitals) × (case_of 61 ≡ Small) × (case_of 37 ≡ Title)
unfolding case_of
cases = (refl, refl, refl)
