-- Letters regardless of case.
use Rattle.std.specs.Prelude.{◌≡◌, refl, [], ◌∷◌, map, ℕ, ◌+◌, ◌-◌}
use Prim.Native.Char.{code}
use Rattle.base_notation.specs.Choice.{when◌then◌else◌}
use Rattle.base_chars.specs.Range.{◌‥◌, ◌∈◌}

-- a capital letter made small; any other byte stays
abbrev pub folded : ℕ → ℕ
folded b = when b ∈ code "A" ‥ code "Z" then b + 32 else b

-- a small letter made a capital; any other byte stays
abbrev pub raised : ℕ → ℕ
raised b = when b ∈ code "a" ‥ code "z" then b - 32 else b

-- the bytes around the capitals: @ A Z [ a
pub worked : map folded (64 ∷ 65 ∷ 90 ∷ 91 ∷ 97 ∷ []) ≡ 64 ∷ 97 ∷ 122 ∷ 91 ∷ 97 ∷ []
worked = refl

-- and those around the small letters: ` a z { A
pub capitals : map raised (96 ∷ 97 ∷ 122 ∷ 123 ∷ 65 ∷ []) ≡ 96 ∷ 65 ∷ 90 ∷ 123 ∷ 65 ∷ []
capitals = refl
