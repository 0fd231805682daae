-- Names laid out in rows of equal width.
use Rattle.std.specs.Prelude.{◌≡◌, refl, List, [], ◌∷◌, ◌++◌, ℕ, ◌-◌, length, replicate}
use Rattle.base_notation.specs.Text.{utf8}

-- a name in n bytes, filled with spaces
abbrev pub filled : ℕ → List ℕ → List ℕ
filled n name = name ++ replicate (n - length name) 32

-- names in n bytes each, one after the other
abbrev pub in_rows : ℕ → List (List ℕ) → List ℕ
in_rows n [] = []
in_rows n (w ∷ ws) = filled n w ++ in_rows n ws

-- two names in rows of five bytes
pub worked : in_rows 5 (utf8 "HH24" ∷ utf8 "Y,YYY" ∷ []) ≡ utf8 "HH24 Y,YYY"
worked = refl
